mod BeginningLemmas
mod BegunLemmas
mod BehindLemmas
mod GoingLemmas
mod HealingLemmas
mod HeldLemmas
mod IdleLemmas
mod InfoLemmas
mod MovingLemmas
mod PartlyLemmas
mod PieceFinishLemmas
mod PieceRunLemmas
mod RecoveringLemmas
mod RemovingLemmas
mod ResetLemmas
mod SettingCheckLemmas
mod SettingFillLemmas
mod SettingFinishLemmas
mod SettingPartLemmas
mod SettingStartLemmas
mod StayingLemmas
mod TryingLemmas
mod TurnEndLemmas
mod TurnLemmas
mod WalkedLemmas
mod WalkingLemmas
pub mod AbsorbingLemmas
pub mod AnyCutLemmas
pub mod CutLemmas
pub mod EndingLemmas
pub mod FinishLemmas
pub mod FreshLemmas
pub mod HealLemmas
pub mod LimitLemmas
pub mod OpeningLemmas
pub mod OtherKeyLemmas
pub mod OtherViewLemmas
pub mod PairLemmas
pub mod PieceLemmas
pub mod ProtectedLemmas
pub mod ReadStepLemmas
pub mod ReadingLemmas
pub mod RemoveLemmas
pub mod RoomLemmas
pub mod RulesLemmas
pub mod RunningLemmas
pub mod SealLemmas
pub mod SetLemmas
pub mod SettingLemmas
pub mod SettingRunLemmas
pub mod StoreReadLemmas
pub mod ViewLemmas
pub mod ViewingLemmas
