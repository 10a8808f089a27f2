mod Used
mod Choosing
mod Searching
mod FreeUses
mod Staged
mod Exact
mod Ways
