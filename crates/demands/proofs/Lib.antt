pub mod Demand1
pub mod Demand2
pub mod Demands
pub mod Light
pub mod Printed
pub mod Refused
pub mod Rows
