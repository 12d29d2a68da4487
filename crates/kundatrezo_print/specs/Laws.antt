-- Laws about what is printed.
pub mod Printed
pub mod Length
