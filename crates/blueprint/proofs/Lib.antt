mod Slots
mod Tables
mod Rows
mod Misfits
mod Spelling
mod Keeping
mod Words
mod Later
