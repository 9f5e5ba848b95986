pub mod Cutter
pub mod PlanLaws
