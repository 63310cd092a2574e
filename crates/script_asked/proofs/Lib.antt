mod Meanings
mod Forms
mod Lines
