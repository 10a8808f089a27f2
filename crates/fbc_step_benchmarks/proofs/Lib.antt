mod Requests
mod Stepped
mod Ready
mod IdleAsks
