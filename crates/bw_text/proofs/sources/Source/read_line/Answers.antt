use Rattle.std.proofs.Common.{rules, ◌≡◌, ◌<◌, ◌≤◌, ◌∙◌, ◌++◌, sym, subst, length, Bool, true, false, not, ℕ, [], ◌∷◌, List, Option, ap, refl, arith}
use Rattle.std.proofs.KnownBytes.{Consumes-trans, Consumes-nil}
use Rattle.std.proofs.lemmas.Bool.Decides.{nat_tests}
use Rattle.std.proofs.lemmas.Result.{err_from_is_err_and}
use Rattle.std.specs.Bool.{MatchBool}
use Rattle.std.specs.Io.KnownBytes.{Consumes}
use Rattle.bw_text.specs.Lines.{IsLineOf}
use Rattle.bw_text.specs.Sources.{SourceView, HasEnded}
use Rattle.bw_text.proofs.LinesLemmas.{IsOneLine, one_line_more, ended_line, last_line, long_line, parsed_none}
use Rattle.bw_text.proofs.ReadingSteps.{reads_on_none, reads_on_more, takes_none_after}
use Rattle.bw_text.proofs.sources.Source.read_line.Goals as goal

-- the end of the input, behind a line that may be empty
by_emptiness : (line : List ℕ) (old new : Option (List ℕ)) (now : SourceView) (empty : Bool) → Consumes old new line → HasEnded now → IsOneLine line → length line ≤ 8192 →
    (empty ≡ true → length line ≡ 0) → (empty ≡ false → 0 < length line) →
    MatchBool (not empty) ((read : List ℕ) × Consumes old new read × IsLineOf line read now.ended × (now.ended ≡ true → HasEnded now)) (Consumes old new [] × HasEnded now)
by_emptiness [] old new now true taken over one short none some = (taken, over)
by_emptiness (b ∷ line) old new now true taken over one short none some = absurd (let e = none refl in omega arith)
by_emptiness line old new now false taken over one short none some =
    (line, taken, last_line line now.ended one (some refl) short over.ended, λ _. over)

pub loop-init : goal.loop-init
loop-init g c = record {
  one = rw c.requires tt;
  count = ap length c.requires;
  taken = rw c.requires (Consumes-nil c.args.self.now.unread);
  on = reads_on_none c.args.self.now;
  same = (refl, refl);
  paid = omega arith;
  ended = refl;
  going = λ lt. absurd (omega (arith, lt));
  none_failed = refl;
}

pub returns-in_err-next_byte-clause-cut : goal.returns-in_err-next_byte-clause-cut
returns-in_err-next_byte-clause-cut g c =
    let p = err_from_is_err_and c.from_residual.result c.from_residual.ensures.1 in
    let failed = c.in_err-next_byte.ensures.faults in
    rw (p.1, p.2) (λ input. (
      sym c.loop.invariant.ended ∙ failed.1,
      (
        c.loop.line.items,
        takes_none_after c.args.self.now.unread c.loop.self.unread c.next_byte.new.self.remaining c.loop.line.items c.loop.invariant.taken failed.2,
        parsed_none c.loop.line.items c.loop.invariant.one (omega (arith, c.loop.invariant.count, c.loop-test.true)),
      ),
    ))

pub returns-in-None-clause-line : goal.returns-in-None-clause-line
returns-in-None-clause-line g c =
    let said = rw c.in-None.is at c.in_ok-next_byte.ensures.byte in
    let line = c.loop.line.items in
    let over = said.1 in
    by_emptiness line c.args.self.now.unread c.next_byte.new.self.unread c.next_byte.new.self c.is_empty.result
    (takes_none_after c.args.self.now.unread c.loop.self.unread c.next_byte.new.self.unread line c.loop.invariant.taken said.0)
    over c.loop.invariant.one (omega (arith, c.loop.invariant.count, c.loop-test.true))
    (λ e. grind (arith, nat_tests, c.is_empty.ensures, c.loop.line.ok)) (λ e. grind (arith, nat_tests, c.is_empty.ensures, c.loop.line.ok))

pub returns-in-Some-eq10-clause-line : goal.returns-in-Some-eq10-clause-line
returns-in-Some-eq10-clause-line g c =
    let said = rw c.in-Some-eq10.is at c.in_ok-next_byte.ensures.byte in
    let line = c.loop.line.items in
    let now = c.next_byte.new.self in (
      line ++ 10 ∷ [],
      Consumes-trans c.args.self.now.unread c.loop.self.unread now.unread line (10 ∷ []) c.loop.invariant.taken
          (subst (λ (b : ℕ). Consumes c.loop.self.unread now.unread (b ∷ [])) c.in-Some-eq10.field-0-test said.0),
      ended_line line now.ended c.loop.invariant.one (omega (arith, c.loop.invariant.count, c.loop-test.true)),
      λ ended. absurd (let going = said.2 in cc),
    )

pub loop-preserved : goal.loop-preserved
loop-preserved g c =
    let said = rw c.in-Some.is at c.in_ok-next_byte.ensures.byte in
    let falls = rw c.in-Some.is at c.in_ok-next_byte.ensures.falls in
    let now = c.next_byte.new.self in
    record {
      one = rw c.in_ok-push-in-Some.ensures.items (one_line_more c.loop.line.items c.in-Some.b c.loop.invariant.one (grind (arith, nat_tests, c.in-Some.b-test)));
      count = search rules;
      taken = rw c.in_ok-push-in-Some.ensures.items (Consumes-trans c.args.self.now.unread c.loop.self.unread now.unread c.loop.line.items (c.in-Some.b ∷ []) c.loop.invariant.taken said.0);
      on = reads_on_more c.args.self.now c.loop.self now c.loop.invariant.on c.in_ok-next_byte.ensures.on;
      same = (c.in_ok-next_byte.ensures.same.0 ∙ c.loop.invariant.same.0, c.in_ok-next_byte.ensures.same.1 ∙ c.loop.invariant.same.1);
      paid = omega (arith, falls, c.loop.invariant.paid);
      ended = said.2 ∙ sym said.1 ∙ c.loop.invariant.ended;
      going = λ lt. said.2;
      none_failed = c.in_ok-next_byte.ensures.none_failed ∙ c.loop.invariant.none_failed;
    }

pub returns-clause-line : goal.returns-clause-line
returns-clause-line g c =
    let line = c.loop.line.items in
    let count : length line ≡ 8193 = omega (arith, c.loop.invariant.count, c.loop-test.false, c.loop.auto.counter-end) in
    let going : c.loop.self.ended ≡ false = c.loop.invariant.going (omega (arith, c.loop.invariant.count, count)) in
    (line, c.loop.invariant.taken, long_line line c.loop.self.ended c.loop.invariant.one count, λ ended. absurd (cc (ended, going)))
