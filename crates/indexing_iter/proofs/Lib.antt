pub mod CheckLaws
pub mod FaultLaws
pub mod FillLaws
pub mod SameKeys
pub mod KeyLaws
pub mod Parts
pub mod Table
pub mod Numbers
