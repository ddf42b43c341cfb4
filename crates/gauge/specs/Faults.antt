-- The refusals of a gauge: the number of each, and the numbers that it tells.
use Rattle.std.specs.Prelude.{ℕ, List, [], ◌∷◌}
use Rattle.gauge.specs.declared.fault.GaugeFault.{GaugeFault}
use Rattle.gauge.specs.declared.fault.GaugeFault.TheVariants.{Missing, OffScale, Impossible, NothingShared, NoMeeting}

abbrev pub gauge_number : GaugeFault → ℕ
gauge_number (Missing channel path) = 1
gauge_number (OffScale channel code path) = 2
gauge_number (Impossible channel code path) = 3
gauge_number (NothingShared path) = 4
gauge_number (NoMeeting lost path) = 5

-- channel, code (0 where there is none) and path; or the path; or lost votes and path
abbrev pub gauge_told : GaugeFault → List ℕ
gauge_told (Missing channel path) = channel ∷ 0 ∷ path.number ∷ []
gauge_told (OffScale channel code path) = channel ∷ code ∷ path.number ∷ []
gauge_told (Impossible channel code path) = channel ∷ code ∷ path.number ∷ []
gauge_told (NothingShared path) = path.number ∷ []
gauge_told (NoMeeting lost path) = lost ∷ path.number ∷ []
