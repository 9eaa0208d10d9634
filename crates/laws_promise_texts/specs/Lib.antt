pub mod ImagesLaws
pub mod RefinesLaws
pub mod OutcomesLaws
