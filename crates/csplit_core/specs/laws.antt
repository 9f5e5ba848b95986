pub mod InputLaws
pub mod PlanLaws
pub mod SectionLaws
