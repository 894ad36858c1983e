mod AddedRows
mod CountQueries
mod FirstRows
mod FoundRows
mod Inserts
mod RecordColumns
mod Judgements
mod KeptRows
mod LimitedRows
mod KeptStudies
mod ChangeSteps
mod ReadRows
mod Migrations
mod ReplacedRows
mod NewStore
mod RowOrder
mod WhereTests
mod Queries
mod UpdatesAndDeletes
mod SchemaTest
mod RowsByPlace
mod SelectAnswers
mod Silent
mod ChoiceTexts
mod StudyTests
mod Firsts
mod KeyOrder
mod ChosenStudies
pub mod Statements
mod StartedRows
mod StartStatements
mod ReadOnlyQueries
mod Texts
mod Walks
pub mod WrittenRows
mod SoundStores
mod DistinctIds
mod AdoptedStores
mod CopiedTables
mod CopiedStore
pub mod OneSchema
pub mod Restarts
pub mod InMemory
mod InTurn
