-- The status of a server that begins.
use Rattle.std.specs.Prelude.{◌≡◌, ◌≤◌, [], vec_capacity}
use Rattle.rv_status.specs.declared.status.HostStatus.{HostStatus}
use Rattle.rv_status.specs.declared.status.StatusTimes.{StatusTimes}
use Rattle.rv_status.specs.Histograms.{answer_bounds, histogram_of, turn_bounds}

-- nothing was observed
abbrev pub no_times : StatusTimes
no_times = record { turns = histogram_of turn_bounds []; answers = histogram_of answer_bounds [] }

pub record HasNoRow (s : HostStatus) : Type 0 where
  pub history : s.history.items ≡ []
  pub queues : s.queues.items ≡ []
  pub unheard : s.unheard.items ≡ []
  pub waiting : s.waiting.items ≡ []

-- there is room for 61 samples, 100 rows and one more of each, and 64 queues
pub record HasRoom (s : HostStatus) : Type 0 where
  pub history : 62 ≤ vec_capacity s.history
  pub queues : 64 ≤ vec_capacity s.queues
  pub unheard : 101 ≤ vec_capacity s.unheard
  pub waiting : 101 ≤ vec_capacity s.waiting
