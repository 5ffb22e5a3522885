pub mod LabelLaws
pub mod NumberLaws
pub mod ApartLaws
pub mod UniqueLaws
