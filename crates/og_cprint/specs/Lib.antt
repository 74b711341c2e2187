pub mod Heading
pub mod Printed
