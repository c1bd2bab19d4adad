pub mod Words
pub mod Parts
pub mod Plan
pub mod PlanCode
pub mod PlanView
pub mod PlanFalls
pub mod Quasi
pub mod QuasiSyntax
