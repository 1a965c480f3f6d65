-- What a list of entries says of a client's session: its incarnation, its version and its last number.
use Rattle.std.specs.Prelude.{◌≡◌, ◌⊎◌, ◌<◌, ◌≤◌, ℕ, List, Some, take}
use Rattle.rv_text.specs.declared.version.Version.{Version}
use Rattle.rv_text.specs.declared.message.Key.{Key}
use Rattle.rv_account.specs.declared.entry.Entry.{Entry}
use Rattle.rv_account.specs.declared.entry.Act.TheVariants.{Hello}
use Rattle.rv_account.specs.Account.{act_at, key_at}

-- the client's last hello stands at h and has this incarnation
pub record LastHello (entries : List Entry) (client incarnation h : ℕ) : Type 0 where
  pub version : Version
  pub hello : act_at entries h ≡ Some (Hello client incarnation version)
  pub last : (r other : ℕ) (spoken : Version) → h < r → act_at entries r ≡ Some (Hello client other spoken)
      → ⊥

-- the client's session has this incarnation
abbrev pub HasIncarnation : List Entry → ℕ → ℕ → Type 0
HasIncarnation entries client incarnation = (h : ℕ) × LastHello entries client incarnation h

-- and its hello asked for this version
pub record HasOpened (entries : List Entry) (client incarnation : ℕ) (version : Version) : Type 0 where
  pub h : ℕ
  pub last : LastHello entries client incarnation h
  pub version_is : version ≡ last.version

-- the client said a hello
abbrev pub SaidHello : List Entry → ℕ → Type 0
SaidHello entries client = (r incarnation : ℕ) × (version : Version)
    × (act_at entries r ≡ Some (Hello client incarnation version))

-- the client said no hello, or only hellos of lower incarnations
abbrev pub HasOnlyLower : List Entry → ℕ → ℕ → Type 0
HasOnlyLower entries client incarnation = (r earlier : ℕ) (version : Version)
    → act_at entries r ≡ Some (Hello client earlier version) → earlier < incarnation

-- the entry at r names a key of the client
pub record NamesKey (entries : List Entry) (client r : ℕ) (key : Key) : Type 0 where
  pub named : key_at entries r ≡ Some key
  pub of_client : key.client ≡ client

-- the greatest number of the client since its last hello is n; 0 where it has none yet
pub record LastNumber (entries : List Entry) (client n : ℕ) : Type 0 where
  pub incarnation : ℕ
  pub h : ℕ
  pub hello : LastHello entries client incarnation h
  pub greatest : (r : ℕ) (key : Key) → h < r → NamesKey entries client r key → key.number ≤ n
  pub reached : (n ≡ 0) ⊎ ((r : ℕ) × (key : Key) × (h < r) × NamesKey entries client r key × (key.number ≡ n))

-- the request that arrived at r was asked in a session of this version: that of its client's last hello
-- before it
pub record AskedIn (entries : List Entry) (r : ℕ) (version : Version) : Type 0 where
  pub key : Key
  pub named : key_at entries r ≡ Some key
  pub incarnation : ℕ
  pub opened : HasOpened (take r entries) key.client incarnation version
