pub mod SplitText
pub mod SplitLines
pub mod SplitSteps
pub mod CountsText
pub mod Validated
pub mod Flaws
