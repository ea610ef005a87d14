mod Short
mod Standard
