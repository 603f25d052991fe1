pub mod FieldFacts
mod TakeFacts
pub mod RowKinds
mod FlowLists
mod Steps
mod LastSlopes
mod Fine
mod BeforeFirst
mod FirstPlaces
mod HeadFacts
mod Room
mod SoFar
mod Tails
mod Kept
mod SupplyFacts
mod SchemeValid
mod AmountTexts
mod Runs
mod WrittenFields
mod WrittenFlows
mod WrittenBands
mod WrittenSupplies
mod WrittenNodes
mod Written
mod OneScheme
pub mod CountWithin
mod WrittenTexts
mod Stands
