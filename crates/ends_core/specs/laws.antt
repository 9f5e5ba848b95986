pub mod EndsLaws
pub mod WorkLaws
