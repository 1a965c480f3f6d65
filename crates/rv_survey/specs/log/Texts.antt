-- What a server says of itself, in words.
use Rattle.std.specs.Prelude.{codes, List, ℕ, ◌++◌}
use Rattle.std.specs.Fmt.{decimal}
use Rattle.rv_survey.specs.declared.log.kind.FaultKind.{FaultKind}
use Rattle.rv_survey.specs.declared.log.kind.FaultKind.TheVariants as kind
use Rattle.rv_survey.specs.declared.log.texts.StartSaid.{StartSaid}

-- what is counted of a kind of fault
abbrev pub kind_words : FaultKind → List ℕ
kind_words kind.NotOpened = codes "connections that found no memory"
kind_words kind.NoDescriptor = codes "accepts without a descriptor (ulimit -n)"
kind_words kind.NotAccepted = codes "accepts that failed"
kind_words kind.Link = codes "links that broke"
kind_words kind.Idle = codes "idle connections closed (--idle)"
kind_words kind.Stall = codes "stalled connections closed (--stall)"
kind_words kind.Behind = codes "turns in which lines of the account found no memory"
kind_words kind.MostHeld = codes "connections closed that held most (--memory)"
kind_words kind.Dropped = codes "lines that standard error didn't take"
kind_words kind.TooManyFrom = codes "connections closed of one address (--connections-from)"
kind_words kind.AccountFile = codes "looks that found the account removed, renamed or cut"
kind_words kind.ClientsFull = codes "hellos of new clients refused 9 (--clients)"
kind_words kind.BookFull = codes "requests refused 10 (--open)"
kind_words kind.NoMemory = codes "messages refused 11: no memory"

-- a kind of fault, and how often it came
abbrev pub fault_words : FaultKind → ℕ → List ℕ
fault_words kind count = kind_words kind ++ codes ": " ++ decimal count

-- where a server listens, and its epoch
abbrev pub place_words : List ℕ → ℕ → List ℕ
place_words address epoch =
    codes "rv host listens on " ++ (address ++ (codes ", epoch " ++ (decimal epoch ++ codes ": ")))

-- the limits of its connections
abbrev pub link_words : ℕ → ℕ → List ℕ
link_words connections files =
    decimal connections ++ (codes " connections (ulimit -n " ++ (decimal files ++ codes "), "))

-- the limits of its book, and of its buffers
abbrev pub book_words : ℕ → ℕ → ℕ → List ℕ
book_words clients places memory =
    decimal clients ++ (codes " clients, " ++ (decimal places
    ++ (codes " open, " ++ (decimal memory ++ codes " MiB"))))

-- all of these
abbrev pub start_words : StartSaid → List ℕ
start_words said = place_words said.address.now said.epoch ++ link_words said.connections said.open_files
    ++ book_words said.clients said.open_places said.memory ++ codes ", rv " ++ said.version.now

-- how a client makes a call to a server at an address
abbrev pub call_words : List ℕ → List ℕ → ℕ → List ℕ
call_words call address client = codes "echo '" ++ (call ++ (codes "' | rv call --connect " ++ (address
    ++ (codes " --client " ++
    (decimal client ++ (codes " " ++ codes "--incarnation $(date +%s) --tries 6 --speak 2"))))))
