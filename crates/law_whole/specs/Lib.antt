pub mod Ready
pub mod Beginning
pub mod Evaluated
pub mod Extends
pub mod Grows
pub mod MadeReady
pub mod WholeWorld
pub mod PartsReady
