-- What the steps over lists write and answer.
pub mod WriteLaws
pub mod EditLaws
