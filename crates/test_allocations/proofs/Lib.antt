mod OffStandard
mod OneRound
