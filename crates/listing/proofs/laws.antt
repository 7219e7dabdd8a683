pub mod AfterSearch
