mod Nodes
mod Calls
mod Setting
mod Lawful
mod Behind
mod Terms
