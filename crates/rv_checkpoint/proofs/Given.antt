-- The line of what is said at each place of a state.
use Rattle.std.proofs.Common.{◌≡◌, ◌<◌, ◌≤◌, ◌+◌, ◌∷◌, [], ◌++◌, ◌∙◌, ℕ, zero, suc, List, Option, Some, None}
use Rattle.std.proofs.Common.{ap, arith, get_or, length, length-append, map, refl, subst, sym, take}
use Rattle.std.proofs.Common.{slice_get}
use Rattle.std.proofs.Common.{Global, String, string_bytes}
use Rattle.std.specs.List.{All, AllZip}
use Rattle.std.proofs.lemmas.List.{length-map}
use Rattle.rv_account.proofs.OfState.Resumed.Decided.{resume_passes}
use Rattle.rv_account.specs.state.State.{State, Waiter}
use Rattle.rv_account.specs.state.resume.Checking.{ClientsRise, PassesAll, StandsWell, state_by}
use Rattle.rv_account.specs.state.resume.Resuming.{CanResume}
use Rattle.rv_book.specs.lines.Lines.{lines, printed_lines}
use Rattle.rv_checkpoint.proofs.WrittenLines.{written_again}
use Rattle.rv_checkpoint.specs.Giving.{GivesSo, HasGivenSo, WritesState, said_after_head}
use Rattle.rv_checkpoint.specs.Reading.{SaysState, all_said}
use Rattle.rv_checkpoint.specs.Written.{IsLineFor, StandsAsked, StandsThere, head_text_of}
use Rattle.rv_checkpoint.specs.declared.line.StateLine.{StateLine}
use Rattle.rv_checkpoint.specs.declared.line.StateLine.TheVariants.{Open, Client, End}
use Rattle.rv_checkpoint.specs.declared.writer.CheckpointWriter.{CheckpointWriter}
use Rattle.rv_session.specs.declared.client.ClientState.{ClientState}
use Rattle.rv_session.specs.declared.open.OpenPlace.{OpenPlace}

abbrev opened : List OpenPlace → List StateLine
opened opens = map (λ there. Open there) opens

abbrev known_said : List (ℕ × ClientState) → List StateLine
known_said clients = map (λ k. Client k.0 k.1) clients

open_at : (opens : List OpenPlace) (rest more : List StateLine) (i : ℕ) (there : OpenPlace)
    → slice_get opens i ≡ Some there → slice_get ((opened opens ++ rest) ++ more) i ≡ Some (Open there)
open_at [] rest more zero there at = absurd (cc)
open_at [] rest more (suc i) there at = absurd (cc)
open_at (o ∷ opens) rest more zero there at = let same : o ≡ there = cc in ap (λ x. Some (Open x)) same
open_at (o ∷ opens) rest more (suc i) there at = open_at opens rest more i there at

past_opens : (opens : List OpenPlace) (rest more : List StateLine) (n i : ℕ) → n ≡ length opens + i
    → slice_get ((opened opens ++ rest) ++ more) n ≡ slice_get (rest ++ more) i
past_opens [] rest more n i is =
    let same : n ≡ i = omega (arith, is) in ap (λ k. slice_get (rest ++ more) k) same
past_opens (o ∷ opens) rest more zero i is = absurd (omega (arith, is))
past_opens (o ∷ opens) rest more (suc n) i is =
    let same : n ≡ length opens + i = omega (arith, is) in past_opens opens rest more n i same

client_at : (clients : List (ℕ × ClientState)) (more : List StateLine) (i : ℕ) (k : ℕ × ClientState)
    → slice_get clients i ≡ Some k → slice_get (known_said clients ++ more) i ≡ Some (Client k.0 k.1)
client_at [] more zero k at = absurd (cc)
client_at [] more (suc i) k at = absurd (cc)
client_at (c ∷ clients) more zero k at = let same : c ≡ k = cc in ap (λ x. Some (Client x.0 x.1)) same
client_at (c ∷ clients) more (suc i) k at = client_at clients more i k at

end_at : (clients : List (ℕ × ClientState)) (last : StateLine)
    → slice_get (known_said clients ++ last ∷ []) (length clients) ≡ Some last
end_at [] last = refl
end_at (c ∷ clients) last = end_at clients last

none_past : (clients : List (ℕ × ClientState)) (last : StateLine) (i : ℕ) → length clients < i
    → slice_get (known_said clients ++ last ∷ []) i ≡ None
none_past [] last zero past = absurd (omega (arith, past))
none_past [] last (suc zero) past = refl
none_past [] last (suc (suc i)) past = refl
none_past (c ∷ clients) last zero past = absurd (omega (arith, past))
none_past (c ∷ clients) last (suc i) past = none_past clients last i (omega (arith, past))

module _ (opens : List OpenPlace) (clients : List (ℕ × ClientState)) where
  abbrev last : StateLine
  last = End (length opens) (length clients)

  pub said_open : (i : ℕ) (there : OpenPlace) → slice_get opens i ≡ Some there
      → slice_get (all_said opens clients) i ≡ Some (Open there)
  said_open i there at = open_at opens (known_said clients) (last ∷ []) i there at

  pub said_client : (i j : ℕ) (k : ℕ × ClientState) → i ≡ length opens + j → slice_get clients j ≡ Some k
      → slice_get (all_said opens clients) i ≡ Some (Client k.0 k.1)
  said_client i j k is at = past_opens opens (known_said clients) (last ∷ []) i j is
      ∙ client_at clients (last ∷ []) j k at

  pub said_end : (i j : ℕ) → i ≡ length opens + j → j ≡ length clients
      → slice_get (all_said opens clients) i ≡ Some (End (length opens) (length clients))
  said_end i j is all = past_opens opens (known_said clients) (last ∷ []) i j is
      ∙ ap (λ n. slice_get (known_said clients ++ last ∷ []) n) all ∙ end_at clients last

  pub said_none : (i j : ℕ) → i ≡ length opens + j → length clients < j
      → slice_get (all_said opens clients) i ≡ None
  said_none i j is past = past_opens opens (known_said clients) (last ∷ []) i j is ∙ none_past clients last j
      past

-- ---- one more

one_more : (said : List StateLine) (i : ℕ) (x : StateLine) → slice_get said i ≡ Some x
    → take (suc i) said ≡ take i said ++ x ∷ []
one_more [] zero x at = absurd (cc)
one_more [] (suc i) x at = absurd (cc)
one_more (y ∷ said) zero x at = let same : y ≡ x = cc in ap (λ z. z ∷ []) same
one_more (y ∷ said) (suc i) x at = ap (λ l. y ∷ l) (one_more said i x at)

zip_one : (epoch : ℕ) (said : List StateLine) (texts : List (List ℕ)) (x : StateLine) (text : List ℕ)
    → AllZip (IsLineFor epoch) said texts → IsLineFor epoch x text
    → AllZip (IsLineFor epoch) (said ++ x ∷ []) (texts ++ text ∷ [])
zip_one epoch [] [] x text zip is = (is, tt)
zip_one epoch [] (t ∷ texts) x text zip is = absurd zip
zip_one epoch (y ∷ said) [] x text zip is = absurd zip
zip_one epoch (y ∷ said) (t ∷ texts) x text zip is = (zip.0, zip_one epoch said texts x text zip.1 is)

pub given_more : (epoch : ℕ) (said : List StateLine) (i : ℕ) (texts : List (List ℕ)) (x : StateLine)
    (text : List ℕ) → AllZip (IsLineFor epoch) (take i said) texts → slice_get said i ≡ Some x
    → IsLineFor epoch x text → AllZip (IsLineFor epoch) (take (suc i) said) (texts ++ text ∷ [])
given_more epoch said i texts x text zip at is =
    subst (λ l. AllZip (IsLineFor epoch) l (texts ++ text ∷ [])) (sym (one_more said i x at))
    (zip_one epoch (take i said) texts x text zip is)

-- nothing is left
all_taken : (said : List StateLine) (i : ℕ) → slice_get said i ≡ None → take i said ≡ said
all_taken [] zero none = refl
all_taken [] (suc i) none = refl
all_taken (y ∷ said) zero none = absurd (cc)
all_taken (y ∷ said) (suc i) none = ap (λ l. y ∷ l) (all_taken said i none)

pub given_all : (epoch : ℕ) (said : List StateLine) (i : ℕ) (texts : List (List ℕ))
    → AllZip (IsLineFor epoch) (take i said) texts → slice_get said i ≡ None
    → AllZip (IsLineFor epoch) said texts
given_all epoch said i texts zip none =
    subst (λ l. AllZip (IsLineFor epoch) l texts) (all_taken said i none) zip

-- ---- a state's places and clients

stands_by : (epoch moment count : ℕ) (clients : List (ℕ × ClientState)) (there : OpenPlace)
    (w : Option Waiter)
    → there.waiter ≡ w → StandsWell epoch moment count clients there → StandsAsked there w
stands_by epoch moment count clients there None is stands = stands.lies is
stands_by epoch moment count clients there (Some w) is stands =
    let last_is = (stands.awaited w is).last in (last_is.call, last_is.stands)

-- something stands at each open place of a state to resume from, and there aren't too many
module _ (s : State) (epoch moment count : ℕ) (opens : List OpenPlace) (clients : List (ℕ × ClientState))
    (is : s ≡ state_by epoch moment count opens clients) (rise : ClientsRise clients) (resumes : CanResume s)
  where
    passes : PassesAll epoch moment count opens clients
    passes = resume_passes epoch moment count opens clients rise (subst CanResume is resumes)

    pub all_stand : All StandsThere opens
    all_stand k d inside = stands_by epoch moment count clients (get_or opens k d) (get_or opens k d).waiter
        refl
        (passes.stand k d inside)

    pub few_said : length (all_said opens clients) ≤ 200001
    few_said = omega (
      arith,
      length-append (opened opens ++ known_said clients) (End (length opens) (length clients) ∷ []),
      length-append (opened opens) (known_said clients),
      length-map opens (λ there. Open there),
      length-map clients (λ k. Client k.0 k.1),
      passes.room.places,
      passes.room.clients,
    )

-- ---- what was given

given_on : (w later : CheckpointWriter) (n : ℕ) (before : List (List ℕ)) (line : String Global)
    → later.head ≡ w.head → said_after_head later ≡ said_after_head w → HasGivenSo w n before
    → GivesSo w n (Some line)
    → HasGivenSo later (suc n) (before ++ string_bytes line ∷ [])
given_on w later zero before line head said none is = (
  [],
  (λ i. none i ++ is i ∷ []) ∙ ap (λ h. head_text_of h ∷ []) (sym head),
  tt,
)
given_on w later (suc n) before line head said (texts, parts, zip) (item, at, is) = (
  texts ++ string_bytes line ∷ [],
  ap (λ l. l ++ string_bytes line ∷ []) parts ∙ ap (λ h. head_text_of h ∷ texts ++ string_bytes line ∷ [])
      (sym head),
  subst (λ h. AllZip (IsLineFor h.epoch) (take (suc n) (said_after_head later)) (texts ++ string_bytes line
      ∷ []))
      (sym head) (subst (λ l. AllZip (IsLineFor w.head.epoch) (take (suc n) l) (texts ++ string_bytes line
      ∷ []))
      (sym said) (given_more w.head.epoch (said_after_head w) n texts item (string_bytes line) zip at is)),
)

pub given_by : (w later : CheckpointWriter) (n m : ℕ) (before : List (List ℕ)) (line : String Global)
    → later.head ≡ w.head → said_after_head later ≡ said_after_head w → m ≡ n + 1 → HasGivenSo w n before
    → GivesSo w n (Some line) → HasGivenSo later m (before ++ string_bytes line ∷ [])
given_by w later n m before line head said is has gives =
    let more : m ≡ suc n = omega (arith, is) in
    subst (λ k. HasGivenSo later k (before ++ string_bytes line ∷ [])) (sym more)
    (given_on w later n before line head said has gives)

pub given_whole : (w : CheckpointWriter) (n : ℕ) (before : List (List ℕ)) (s : State) → WritesState w s
    → HasGivenSo w n before → GivesSo w n None → SaysState (lines (printed_lines before)) s
given_whole w zero before s of has none = absurd none
given_whole w (suc n) before s of (texts, parts, zip) none =
    subst (λ l. SaysState (lines (printed_lines l)) s) (sym parts)
    (written_again w.head w.opens.items w.clients.items texts s of.state of.rise of.resumes
    (given_all w.head.epoch (said_after_head w) n texts zip none))
