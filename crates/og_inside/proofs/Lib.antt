pub mod ExampleMade
