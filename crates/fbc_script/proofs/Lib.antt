mod Joining
mod Inversion
mod Numerals
mod Printed
mod ReadBack
mod Splitting
mod Transactions
