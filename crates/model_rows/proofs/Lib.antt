mod ComesOnce
mod NotOnce
mod ClonesComeOnce
mod LegalReads
mod Numbers
mod RetainedReads
pub mod RightEntries
pub mod RightReads
mod RightRestores
mod StandingReads
mod StandingRestores
pub mod Histories
pub mod Turns
mod RightWindows
mod RightClones
mod Covers
mod Texts
mod WrittenCatalogs
mod WrittenEnds
mod WrittenHistories
mod WrittenHours
mod WrittenRestores
mod WrittenSchedules
mod WrittenWork
mod Settled
mod KeptVersions
mod Limits
mod Places
mod Taken
mod WrongJournals
mod WrongWindows
mod WrongLooks
mod WrongReads
mod Events
mod WrittenNames
