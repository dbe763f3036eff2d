use Rattle.std.proofs.Common.{◌≡◌, ◌++◌, ◌∙◌, Bool, true, false, ap, sym, subst, List, [], ◌∷◌, ◌<◌, length, ℕ, refl, inl, inr, arith}
use Rattle.std.proofs.KnownBytes.{Consumes-trans}
use Rattle.std.proofs.lemmas.Bool.Decides.{nat_tests}
use Rattle.std.proofs.lemmas.Result.{err_from_is_err_and}
use Rattle.std.specs.Io.KnownBytes.{Consumes}
use Rattle.bw_text.specs.Sources.{SourceView}
use Rattle.bw_text.specs.Traces.{StandFor}
use Rattle.bw_text.specs.declared.places.Place.{Place}
use Rattle.bw_text.proofs.ReadingSteps.{reads_on_more, takes_none_after}
use Rattle.bw_text.proofs.TracesLemmas.{GoesOn, one_line, gathered, one_more_at_most, was_going, after_go, after_fault, last_at_end, none_at_cut}
use Rattle.bw_text.proofs.sources.Source.gather.Goals as goal

not_ended : (b : Bool) → (b ≡ true → ⊥) → b ≡ false
not_ended true not_true = absurd (not_true refl)
not_ended false not_true = refl

pub loop-line-preserved-in-Nothing : goal.loop-line-preserved-in-Nothing
loop-line-preserved-in-Nothing g c =
    let before = c.args.self.now in
    let mid = c.loop-line.self in
    let now = c.next_line.new.self in
    let ops = c.loop-line.ops.items in
    let meaning = c.in-Some.meaning in
    let said = rw c.in-Some.is at c.in_ok-meaning.ensures.meaning in
    let parsed = one_line before.place mid.place now.place before.ended before.unread mid.unread now.unread ops mid.ended now.ended meaning said.0
    c.loop-line.invariant.so_far said.2.2 said.2.1 said.2.0 said.1 in
    let over = was_going before.ended mid.ended (λ e. (c.loop-line.invariant.over e).0) said.2.2 in
    let falls = rw c.in-Some.is at c.in_ok-meaning.ensures.falls in
    let goes_on : GoesOn meaning ops ops = inl (c.in-Nothing.is, refl) in
    record {
      so_far = gathered before.place now.place before.ended before.unread now.unread ops ops now.ended meaning over goes_on parsed;
      over = λ e. absurd (cc (e, over));
      on = reads_on_more before mid now c.loop-line.invariant.on c.in_ok-meaning.ensures.on;
      fault = c.in_ok-meaning.ensures.fault ∙ c.loop-line.invariant.fault;
      paid = omega (arith, one_more_at_most meaning ops ops goes_on, falls.1, c.loop-line.invariant.paid);
      room = falls.0;
      none_failed = c.in_ok-meaning.ensures.none_failed ∙ c.loop-line.invariant.none_failed;
    }

pub loop-line-preserved-in-StartsVersion2 : goal.loop-line-preserved-in-StartsVersion2
loop-line-preserved-in-StartsVersion2 g c =
    let before = c.args.self.now in
    let mid = c.loop-line.self in
    let now = c.next_line.new.self in
    let ops = c.loop-line.ops.items in
    let meaning = c.in-Some.meaning in
    let said = rw c.in-Some.is at c.in_ok-meaning.ensures.meaning in
    let parsed = one_line before.place mid.place now.place before.ended before.unread mid.unread now.unread ops mid.ended now.ended meaning said.0
    c.loop-line.invariant.so_far said.2.2 said.2.1 said.2.0 said.1 in
    let over = was_going before.ended mid.ended (λ e. (c.loop-line.invariant.over e).0) said.2.2 in
    let falls = rw c.in-Some.is at c.in_ok-meaning.ensures.falls in
    let goes_on : GoesOn meaning ops ops = inr (inl (c.in-StartsVersion2.is, refl)) in
    record {
      so_far = gathered before.place now.place before.ended before.unread now.unread ops ops now.ended meaning over goes_on parsed;
      over = λ e. absurd (cc (e, over));
      on = reads_on_more before mid now c.loop-line.invariant.on c.in_ok-meaning.ensures.on;
      fault = c.in_ok-meaning.ensures.fault ∙ c.loop-line.invariant.fault;
      paid = omega (arith, one_more_at_most meaning ops ops goes_on, falls.1, c.loop-line.invariant.paid);
      room = falls.0;
      none_failed = c.in_ok-meaning.ensures.none_failed ∙ c.loop-line.invariant.none_failed;
    }

pub loop-line-preserved : goal.loop-line-preserved
loop-line-preserved g c =
    let before = c.args.self.now in
    let mid = c.loop-line.self in
    let now = c.next_line.new.self in
    let ops = c.loop-line.ops.items in
    let meaning = c.in-Some.meaning in
    let said = rw c.in-Some.is at c.in_ok-meaning.ensures.meaning in
    let parsed = one_line before.place mid.place now.place before.ended before.unread mid.unread now.unread ops mid.ended now.ended meaning said.0
    c.loop-line.invariant.so_far said.2.2 said.2.1 said.2.0 said.1 in
    let over = was_going before.ended mid.ended (λ e. (c.loop-line.invariant.over e).0) said.2.2 in
    let falls = rw c.in-Some.is at c.in_ok-meaning.ensures.falls in
    let goes_on : GoesOn meaning ops c.push.new.self.items = inr (inr (c.in-Operation.op, c.in-Operation.is, c.in_ok-push-in-Operation.ensures.items)) in
    record {
      so_far = gathered before.place now.place before.ended before.unread now.unread ops c.push.new.self.items now.ended meaning over goes_on parsed;
      over = λ e. absurd (cc (e, over));
      on = reads_on_more before mid now c.loop-line.invariant.on c.in_ok-meaning.ensures.on;
      fault = c.in_ok-meaning.ensures.fault ∙ c.loop-line.invariant.fault;
      paid = omega (arith, one_more_at_most meaning ops c.push.new.self.items goes_on, falls.1, c.loop-line.invariant.paid);
      room = falls.0;
      none_failed = c.in_ok-meaning.ensures.none_failed ∙ c.loop-line.invariant.none_failed;
    }

pub returns-in-EndsBatch-clause-batch : goal.returns-in-EndsBatch-clause-batch
returns-in-EndsBatch-clause-batch g c =
    let before = c.args.self.now in
    let mid = c.loop-line.self in
    let now = c.next_line.new.self in
    let ops = c.loop-line.ops.items in
    let meaning = c.in-Some.meaning in
    let said = rw c.in-Some.is at c.in_ok-meaning.ensures.meaning in
    let parsed = one_line before.place mid.place now.place before.ended before.unread mid.unread now.unread ops mid.ended now.ended meaning said.0
    c.loop-line.invariant.so_far said.2.2 said.2.1 said.2.0 said.1 in (
      parsed.0,
      parsed.1,
      (
        after_go before.place now.place parsed.0 ops now.ended meaning c.in-EndsBatch.is parsed.2,
        was_going before.ended mid.ended (λ e. (c.loop-line.invariant.over e).0) said.2.2,
        said.2.3,
      ),
    )

pub returns-in-Faulty-clause-line : goal.returns-in-Faulty-clause-line
returns-in-Faulty-clause-line g c =
    let before = c.args.self.now in
    let mid = c.loop-line.self in
    let now = c.next_line.new.self in
    let ops = c.loop-line.ops.items in
    let meaning = c.in-Some.meaning in
    let said = rw c.in-Some.is at c.in_ok-meaning.ensures.meaning in
    let parsed = one_line before.place mid.place now.place before.ended before.unread mid.unread now.unread ops mid.ended now.ended meaning said.0
    c.loop-line.invariant.so_far said.2.2 said.2.1 said.2.0 said.1 in
    let number = ap (λ (s : SourceView). s.place.lines) c.self-in-loop-line.view_is in
    (parsed.0, parsed.1, rw number (after_fault before.place now.place parsed.0 ops c.in-Faulty.cause now.ended meaning c.in-Faulty.is parsed.2), said.2.3)

pub returns-clause-batch : goal.returns-clause-batch
returns-clause-batch g c =
    let before = c.args.self.now in
    let mid = c.loop-line.self in
    let now = c.next_line.new.self in
    let ops = c.loop-line.ops.items in
    let said = rw c.in_default.is at c.in_ok-meaning.ensures.meaning in
    let so_far = c.loop-line.invariant.so_far in
    let some : 0 < length ops = grind (arith, nat_tests, c.is_empty.ensures, c.if-is_empty.false, c.loop-line.ops.ok) in
    let going : before.ended ≡ false = not_ended before.ended (λ e. let none = (c.loop-line.invariant.over e).1 in omega (arith, some, ap length none)) in
    let took : Consumes mid.unread now.unread [] = subst (λ (l : List ℕ). Consumes mid.unread now.unread l) said.2.0 said.1 in (
      so_far.0,
      takes_none_after before.unread mid.unread now.unread so_far.0 so_far.1 took,
      (
        subst (λ (n : Place). StandFor before.place so_far.0 (ops ∷ []) n now.ended) (sym said.2.1)
            (last_at_end before.place mid.place so_far.0 ops mid.ended now.ended some said.2.2.ended so_far.2),
        going,
        λ _. said.2.2,
      ),
    )

pub returns-in_err-meaning-clause-cut : goal.returns-in_err-meaning-clause-cut
returns-in_err-meaning-clause-cut g c =
    let before = c.args.self.now in
    let mid = c.loop-line.self in
    let so_far = c.loop-line.invariant.so_far in
    let p = err_from_is_err_and c.from_residual.result c.from_residual.ensures.1 in
    rw (p.1, p.2) (λ input.
    let cut = c.in_err-meaning.ensures.cut input in (
      was_going before.ended mid.ended (λ e. (c.loop-line.invariant.over e).0) cut.0,
      (
        so_far.0 ++ cut.1.0,
        Consumes-trans before.unread mid.unread c.next_line.new.self.remaining so_far.0 cut.1.0 so_far.1 cut.1.1,
        none_at_cut before.place mid.place so_far.0 cut.1.0 c.loop-line.ops.items mid.ended cut.0 cut.1.2 so_far.2,
      ),
    ))
