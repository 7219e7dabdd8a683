pub mod WorkedCases
