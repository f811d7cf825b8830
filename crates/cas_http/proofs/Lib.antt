mod BodyPrograms
mod ClauseLists
mod Fronts
mod KeyTests
mod Lengths
mod LongerFronts
mod ObjectMembers
mod OutcomeJson
mod ProgramJson
pub mod RequestFronts
pub mod RequestSizes
mod Responses
mod Utf8
