-- What a state says of an entry, before anything is done.
use Rattle.rv_account.specs.declared.entry.Entry.{Entry}
use Rattle.rv_account.specs.state.Follows.{FollowsState}
use Rattle.rv_account.specs.state.State.{State}
use Rattle.rv_verify.specs.declared.follow.ruling.Ruling.{Ruling}
use Rattle.rv_verify.specs.declared.follow.ruling.Ruling.TheVariants.{Breaks, Follows, NotOpen}
use Rattle.rv_verify.specs.follow.state_rules.Ruling.{IsFirstBroken, NamesClosed}

-- this ruling is true of the entry
abbrev pub IsRulingOf : State → Entry → Ruling → Type 0
IsRulingOf s e Follows = FollowsState s e
IsRulingOf s e (Breaks rule) = IsFirstBroken s e rule
IsRulingOf s e NotOpen = NamesClosed s e
