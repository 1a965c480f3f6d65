-- The texts of results: one line each, and short.
use Rattle.std.proofs.Common.{◌≡◌, ◌≢◌, ◌<◌, ◌≤◌, ◌^◌, ◌∷◌, ◌++◌, ℕ, List, Option, Some, None, Result, Ok}
use Rattle.std.proofs.Common.{Err, IfOk, option_map, true, lit≤, refl, sym, ap, subst, ◌∙◌, arith, codes}
use Rattle.std.proofs.Common.{length, length-append}
use Rattle.std.specs.Prelude.{nat_lt, slice_get, String, string_bytes}
use Rattle.std.specs.List.{All, list_all}
use Rattle.std.specs.Fmt.{decimal}
use Rattle.std.specs.declared.alloc.Global.{Global}
use Rattle.std.proofs.lemmas.Fmt.{length-decimal-le}
use Rattle.rv_text.specs.declared.answer.Answer.{Answer}
use Rattle.rv_text.specs.declared.answer.Answer.TheVariants as answers
use Rattle.rv_text.specs.declared.message.Key.{Key}
use Rattle.rv_text.specs.Bodies.{HasBodyLength, answer_text}
use Rattle.rv_text.specs.Limits.{FitsAnswer}
use Rattle.rv_book.proofs.OfLines.OneLine.{answer_in_one_line, decimal_in_line, line_append, line_cons}
use Rattle.rv_book.proofs.OfLines.OneLine.{word_in_line}
use Rattle.rv_world.specs.declared.parts.packet.Packet.{Packet}
use Rattle.rv_world.specs.parts.World.{World}
use Rattle.rv_world.specs.declared.parts.event.Event.{Event}
use Rattle.rv_world.specs.declared.parts.seen.Seen.{Seen}
use Rattle.rv_world.specs.declared.parts.seen.Seen.TheVariants as sees
use Rattle.rv_world.specs.declared.parts.seen.WorldRefusal.{WorldRefusal}
use Rattle.rv_run.specs.play.Reading.{SaysEvent, SaysNoEvent}
use Rattle.rv_run.specs.play.Told.{FitsLine, HoldsAnswer, IsBodyOf, IsResult, PlaysEvent, PlaysLine}
use Rattle.rv_run.specs.play.Turns.{Given, NoEvent, TellsResult}

-- no byte of a word is LF, nor below it
abbrev IsPlain : List ℕ → Type 0
IsPlain word = list_all (λ b. nat_lt 10 b) word ≡ true

word_fits : (text word : List ℕ) → text ≡ word → IsPlain word → length word ≤ 20 → FitsLine text
word_fits text word is plain few = subst FitsLine (sym is) (record {
  one_line = word_in_line word plain;
  short = omega (arith, few);
})

number_fits : (text word : List ℕ) (n : ℕ) → text ≡ word ++ decimal n → IsPlain word → length word ≤ 20
    → n < 2 ^ 64 → FitsLine text
number_fits text word n is plain few small = subst FitsLine (sym is) (record {
  one_line = line_append word (decimal n) (word_in_line word plain) (decimal_in_line n small);
  short = omega (
    arith,
    length-append word (decimal n),
    few,
    length-decimal-le 20 n (omega arith)
        (omega arith) small,
  );
})

-- ---- results

pub number_result : (w : World) (shown : Result Seen WorldRefusal) (s : String Global) (word : List ℕ) (n : ℕ)
    → string_bytes s ≡ word ++ decimal n → IsPlain word → length word ≤ 20 → n < 2 ^ 64
    → (string_bytes s ≡ word ++ decimal n → TellsResult w shown (string_bytes s)) → IsResult w shown s
number_result w shown s word n is plain few small tells = record {
  tells = tells is;
  fits =
      number_fits (string_bytes s) word n is plain few small;
}

module _ (w : World) (packet : ℕ) (body : String Global) (of : IsBodyOf w packet body) where
  pub answered_result : (s : String Global) → string_bytes s ≡ codes "answered " ++ decimal packet ++ 32
      ∷ string_bytes body → packet < 2 ^ 64 → IsResult w (Ok (sees.Answered packet)) s
  answered_result s is small =
      let front : List ℕ = codes "answered " ++ decimal packet in
      record {
        tells = record {
          sent = of.sent;
          there = of.there;
          text_is = is
              ∙ ap (λ (b : List ℕ). codes "answered " ++ decimal packet ++ 32 ∷ b) of.body_is;
        };
        fits = subst FitsLine (sym is) (record {
          one_line = line_append front (32 ∷ string_bytes body) (line_append (codes "answered ")
              (decimal packet) (word_in_line (codes "answered ") refl) (decimal_in_line packet small))
              (line_cons 32 (string_bytes body) (λ same. omega arith) of.one_line);
          short = omega (
            arith,
            length-append front (32 ∷ string_bytes body),
            length-append
                (codes "answered ") (decimal packet),
            length-decimal-le 20 packet (omega arith) (omega arith)
                small,
            of.fits.1,
          );
        });
      }

  same_packet : (p q : Packet) (found : Option Packet) → found ≡ Some p → found ≡ Some q → p ≡ q
  same_packet p q found is is' = cc

  pub settled_result : (key : Key) (s : String Global) → HoldsAnswer w packet key
      → string_bytes s ≡ codes "settled " ++ string_bytes body → IsResult w (Ok (sees.Settled key)) s
  settled_result key s holds is =
      let same : of.sent ≡ record { client = holds.client; answer = answers.Replied key holds.reply } =
      same_packet of.sent _ _ of.there holds.there in
      record {
        tells = record {
          reply = holds.reply;
          held = holds.held;
          text_is = is
              ∙ ap (λ (b : List ℕ). codes "settled " ++ b) (of.body_is
              ∙ ap (λ (p : Packet). answer_text p.answer) same);
        };
        fits = subst FitsLine (sym is) (record {
          one_line = line_append (codes "settled ") (string_bytes body) (word_in_line (codes "settled ") refl)
              of.one_line;
          short = omega (arith, length-append (codes "settled ") (string_bytes body), of.fits.1);
        });
      }

-- ---- bodies

sent_answer : (found : Option Packet) (a : Answer) → Some a ≡ option_map (λ p. p.answer) found
    → (p : Packet) × (found ≡ Some p) × (a ≡ p.answer)
sent_answer None a same = absurd (cc)
sent_answer (Some p) a same = (p, refl, cc)

pub written_of : {E : Type 0} (w : World) (packet : ℕ) (a : Answer) (written : Result (String Global) E)
    → Some a ≡ option_map (λ p. p.answer) (slice_get w.to_client packet) → FitsAnswer a
    → IfOk written (λ s. string_bytes s ≡ answer_text a) → IfOk written (λ s. HasBodyLength (string_bytes s))
    → IfOk written (IsBodyOf w packet)
written_of w packet a (Err fault) same fits text short = tt
written_of w packet a (Ok s) same fits text short =
    let found = sent_answer (slice_get w.to_client packet) a same in
    record {
      sent = found.0;
      there = found.1;
      body_is = text ∙ ap answer_text found.2;
      fits = short;
      one_line = subst (λ (l : List ℕ). All (λ b. b ≢ 10) l) (sym text) (answer_in_one_line a fits);
    }

-- ---- turns

pub event_turn : (w v : World) (line : List ℕ) (e : Event) (s : String Global) → SaysEvent line e
    → PlaysEvent w e v s → PlaysLine w line v s
event_turn w v line e s says plays = record {
  came = Given e plays.shown;
  takes = record {
    leads = (says, plays.comes);
    tells = plays.told.tells;
    one_line = plays.told.fits.one_line;
  };
  short = plays.told.fits.short;
}

pub bad_turn : (w : World) (line : List ℕ) (s : String Global) → SaysNoEvent line
    → string_bytes s ≡ codes "bad line" → PlaysLine w line w s
bad_turn w line s none is =
    let fits = word_fits (string_bytes s) (codes "bad line") is refl (lit≤ tt) in
    record {
      came = NoEvent;
      takes = record { leads = (none, refl); tells = is; one_line = fits.one_line };
      short = fits.short;
    }
