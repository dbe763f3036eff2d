-- A trace, one line further.
use Rattle.std.proofs.Common.{◌≡◌, ◌≢◌, ℕ, ◌+◌, ◌<◌, ◌≤◌, Bool, true, false, List, [], ◌∷◌, ◌++◌, length, Option, refl, sym, ap, ◌∙◌, subst, inl, inr, arith, append_assoc, append-nil, length-append, ◌⊎◌}
use Rattle.std.proofs.KnownBytes.{Consumes-trans}
use Rattle.std.specs.Io.KnownBytes.{Consumes}
use Rattle.std.proofs.lemmas.Bool.{cases_lt, lt-ltb}
use Rattle.bw_model.specs.declared.operations.Op.{Op}
use Rattle.bw_text.specs.declared.faults.Cause.{Cause}
use Rattle.bw_text.specs.declared.faults.Cause.TheVariants.{LongLine}
use Rattle.bw_text.specs.declared.parse.Meaning.{Meaning}
use Rattle.bw_text.specs.declared.parse.Meaning.TheVariants.{Nothing, Operation, EndsBatch, StartsVersion2, Faulty}
use Rattle.bw_text.specs.declared.places.Place.{Place}
use Rattle.bw_text.specs.Lines.{lines_of, parsed_lines_of, IsFirstLine, IsLineOf}
use Rattle.bw_text.specs.Grammar.{meaning_of, place_behind, IsLineMeaning}
use Rattle.bw_text.specs.Traces.{trace_of_lines, trace_from, cut_trace_from, line_then, at_end, at_cut, no_trace, behind, StandFor, IsFaultyAt}

too_long : (place : Place) (line : List ℕ) → 8192 < length line → meaning_of place line ≡ Faulty LongLine
too_long place line lt = rw (lt-ltb 8192 (length line) lt) refl

-- a line at the front is parsed, and then the rest is, unless it is too long
first_line : (place : Place) (ops : List Op) (all line rest : List ℕ) → IsFirstLine all line rest →
    trace_of_lines at_end place ops (lines_of all)
    ≡ line_then (place.lines + 1) ops (meaning_of place line) (λ ops'. trace_of_lines at_end (place_behind place (meaning_of place line)) ops' (lines_of rest))
first_line place ops all line rest is = elim (cases_lt 8192 (length line)) [
  | inl long ↦
      let more = is.1 long in
      ap (trace_of_lines at_end place ops) more.2
      ∙ ap (λ meaning. line_then (place.lines + 1) ops meaning (λ ops'. trace_of_lines at_end (place_behind place meaning) ops' more.1)) (too_long place more.0 more.3)
      ∙ sym (ap (λ meaning. line_then (place.lines + 1) ops meaning (λ ops'. trace_of_lines at_end (place_behind place meaning) ops' (lines_of rest))) (too_long place line long))
  | inr short ↦ ap (trace_of_lines at_end place ops) (is.0 short)
]

-- The bytes that were read gave these operations since the last `go`, and the next line stands there.
pub record IsGathering (before : Place) (read : List ℕ) (ops : List Op) (after : Place) (ended : Bool) : Type 0 where
  pub further : (more : List ℕ) → (ended ≡ true → more ≡ []) → trace_from before (read ++ more) ≡ trace_of_lines at_end after ops (lines_of more)
  pub cut : ended ≡ false → (more : List ℕ) → cut_trace_from before (read ++ more) ≡ trace_of_lines at_cut after ops (parsed_lines_of more)

-- A line of this meaning was read behind them.
pub record IsParsed (before : Place) (read : List ℕ) (ops : List Op) (after : Place) (ended : Bool) (meaning : Meaning) : Type 0 where
  pub further : (more : List ℕ) → (ended ≡ true → more ≡ []) → trace_from before (read ++ more) ≡ line_then after.lines ops meaning (λ ops'. trace_of_lines at_end after ops' (lines_of more))
  pub cut : meaning ≢ Faulty LongLine → ended ≡ false → (more : List ℕ) → cut_trace_from before (read ++ more) ≡ line_then after.lines ops meaning (λ ops'. trace_of_lines at_cut after ops' (parsed_lines_of more))

pub gathering_starts : (before : Place) (ended : Bool) → IsGathering before [] [] before ended
gathering_starts before ended = record { further = λ more end. refl; cut = λ going more. refl }

pub line_parsed : (before place : Place) (read taken line : List ℕ) (ops : List Op) (ended ended' : Bool) (meaning : Meaning) → ended ≡ false →
    IsGathering before read ops place ended → IsLineOf line taken ended' → meaning ≡ meaning_of place line → IsParsed before (read ++ taken) ops (place_behind place meaning) ended' meaning
line_parsed before place read taken line ops ended ended' meaning going so_far is means = record {
  further = λ more end.
      ap (trace_from before) (append_assoc read taken more) ∙ so_far.further (taken ++ more) (λ e. absurd (let f = going in cc))
      ∙ first_line place ops (taken ++ more) line more (is.first more end)
      ∙ ap (λ m. line_then (place.lines + 1) ops m (λ ops'. trace_of_lines at_end (place_behind place m) ops' (lines_of more))) (sym means);
  cut = λ other going' more.
      ap (cut_trace_from before) (append_assoc read taken more) ∙ so_far.cut going (taken ++ more)
      ∙ ap (trace_of_lines at_cut place ops) (is.whole going' (short other) more)
      ∙ ap (λ m. line_then (place.lines + 1) ops m (λ ops'. trace_of_lines at_cut (place_behind place m) ops' (parsed_lines_of more))) (sym means);
}
  where
    short : meaning ≢ Faulty LongLine → length line ≤ 8192
    short other = elim (cases_lt 8192 (length line)) [
      | inl long ↦ absurd (other (means ∙ too_long place line long))
      | inr le ↦ le
    ]

-- ---- by the meaning of the line

pub after_nothing : (before after : Place) (read : List ℕ) (ops : List Op) (ended : Bool) (meaning : Meaning) → meaning ≡ Nothing → IsParsed before read ops after ended meaning → IsGathering before read ops after ended
after_nothing before after read ops ended meaning is parsed = record {
  further = λ more end. parsed.further more end ∙ ap (λ m. line_then after.lines ops m (λ ops'. trace_of_lines at_end after ops' (lines_of more))) is;
  cut = λ going more. parsed.cut (λ e. cc) going more ∙ ap (λ m. line_then after.lines ops m (λ ops'. trace_of_lines at_cut after ops' (parsed_lines_of more))) is;
}

pub after_heading : (before after : Place) (read : List ℕ) (ops : List Op) (ended : Bool) (meaning : Meaning) → meaning ≡ StartsVersion2 → IsParsed before read ops after ended meaning → IsGathering before read ops after ended
after_heading before after read ops ended meaning is parsed = record {
  further = λ more end. parsed.further more end ∙ ap (λ m. line_then after.lines ops m (λ ops'. trace_of_lines at_end after ops' (lines_of more))) is;
  cut = λ going more. parsed.cut (λ e. cc) going more ∙ ap (λ m. line_then after.lines ops m (λ ops'. trace_of_lines at_cut after ops' (parsed_lines_of more))) is;
}

pub after_operation : (before after : Place) (read : List ℕ) (ops : List Op) (op : Op) (ended : Bool) (meaning : Meaning) → meaning ≡ Operation op → IsParsed before read ops after ended meaning →
    IsGathering before read (ops ++ op ∷ []) after ended
after_operation before after read ops op ended meaning is parsed = record {
  further = λ more end. parsed.further more end ∙ ap (λ m. line_then after.lines ops m (λ ops'. trace_of_lines at_end after ops' (lines_of more))) is;
  cut = λ going more. parsed.cut (λ e. cc) going more ∙ ap (λ m. line_then after.lines ops m (λ ops'. trace_of_lines at_cut after ops' (parsed_lines_of more))) is;
}

pub after_go : (before after : Place) (read : List ℕ) (ops : List Op) (ended : Bool) (meaning : Meaning) → meaning ≡ EndsBatch → IsParsed before read ops after ended meaning → StandFor before read (ops ∷ []) after ended
after_go before after read ops ended meaning is parsed = record {
  alone = ap (trace_from before) (sym (append-nil read)) ∙ further [] (λ _. refl);
  further = λ going more. further more (λ e. absurd (let f = going in cc));
  cut = λ going more. parsed.cut (λ e. cc) going more ∙ ap (λ m. line_then after.lines ops m (λ ops'. trace_of_lines at_cut after ops' (parsed_lines_of more))) is;
}
  where
    further : (more : List ℕ) → (ended ≡ true → more ≡ []) → trace_from before (read ++ more) ≡ behind (ops ∷ []) (trace_from after more)
    further more end = parsed.further more end ∙ ap (λ m. line_then after.lines ops m (λ ops'. trace_of_lines at_end after ops' (lines_of more))) is

pub after_fault : (before after : Place) (read : List ℕ) (ops : List Op) (cause : Cause) (ended : Bool) (meaning : Meaning) → meaning ≡ Faulty cause → IsParsed before read ops after ended meaning →
    IsFaultyAt before read after.lines cause ended
after_fault before after read ops cause ended meaning is parsed more end =
    parsed.further more end ∙ ap (λ m. line_then after.lines ops m (λ ops'. trace_of_lines at_end after ops' (lines_of more))) is

-- ---- at the end of the input

pub none_at_end : (before after : Place) (read : List ℕ) (ops : List Op) (ended : Bool) → ops ≡ [] → IsGathering before read ops after ended → trace_from before read ≡ no_trace
none_at_end before after read ops ended none so_far =
    ap (trace_from before) (sym (append-nil read)) ∙ so_far.further [] (λ _. refl) ∙ ap at_end none

pub last_at_end : (before after : Place) (read : List ℕ) (ops : List Op) (ended ended' : Bool) → 0 < length ops → ended' ≡ true → IsGathering before read ops after ended → StandFor before read (ops ∷ []) after ended'
last_at_end before after read [] ended ended' some end so_far = absurd (omega (arith, some))
last_at_end before after read (op ∷ ops) ended ended' some end so_far = record {
  alone = ap (trace_from before) (sym (append-nil read)) ∙ so_far.further [] (λ _. refl);
  further = λ going more. absurd (let f = end in cc);
  cut = λ going more. absurd (let f = end in cc);
}

-- where the input was cut off
pub none_at_cut : (before after : Place) (read taken : List ℕ) (ops : List Op) (ended : Bool) → ended ≡ false → parsed_lines_of taken ≡ [] → IsGathering before read ops after ended → cut_trace_from before (read ++ taken) ≡ no_trace
none_at_cut before after read taken ops ended going none so_far = so_far.cut going taken ∙ ap (trace_of_lines at_cut after ops) none

-- ---- the same, with what was unread before and after

-- bytes were read so far, none where the source was at its end before, and these operations gathered
abbrev pub HasGathered : Place → Bool → Option (List ℕ) → Option (List ℕ) → List Op → Place → Bool → Type 0
HasGathered before over old new ops after ended = (read : List ℕ) × Consumes old new read × IsGathering before read ops after ended × (over ≡ true → read ≡ [])

-- and a line of this meaning behind them
abbrev pub HasJudged : Place → Option (List ℕ) → Option (List ℕ) → List Op → Place → Bool → Meaning → Type 0
HasJudged before old new ops after ended meaning = (read : List ℕ) × Consumes old new read × IsParsed before read ops after ended meaning

-- the next line, read and parsed
pub one_line : (before place place' : Place) (over : Bool) (old mid new : Option (List ℕ)) (ops : List Op) (ended ended' : Bool) (meaning : Meaning) (taken : List ℕ) →
    HasGathered before over old mid ops place ended → ended ≡ false → place' ≡ place_behind place meaning → IsLineMeaning place taken meaning ended' → Consumes mid new taken →
    HasJudged before old new ops place' ended' meaning
one_line before place place' over old mid new ops ended ended' meaning taken so_far going passed is takes = (
  so_far.0 ++ taken,
  Consumes-trans old mid new so_far.0 taken so_far.1 takes,
  subst (λ p. IsParsed before (so_far.0 ++ taken) ops p ended' meaning) (sym passed) (line_parsed before place so_far.0 taken is.0 ops ended ended' meaning going so_far.2 is.1 is.2),
)

-- it was blank, an operation or the heading
abbrev pub GoesOn : Meaning → List Op → List Op → Type 0
GoesOn meaning ops ops' = ((meaning ≡ Nothing) × (ops' ≡ ops)) ⊎ (((meaning ≡ StartsVersion2) × (ops' ≡ ops)) ⊎ ((op : Op) × (meaning ≡ Operation op) × (ops' ≡ ops ++ op ∷ [])))

pub gathered : (before after : Place) (over : Bool) (old new : Option (List ℕ)) (ops ops' : List Op) (ended : Bool) (meaning : Meaning) → over ≡ false → GoesOn meaning ops ops' →
    HasJudged before old new ops after ended meaning → HasGathered before over old new ops' after ended
gathered before after over old new ops ops' ended meaning going (inl (is, same)) parsed =
    (parsed.0, parsed.1, subst (λ l. IsGathering before parsed.0 l after ended) (sym same) (after_nothing before after parsed.0 ops ended meaning is parsed.2), λ e. absurd (let f = going in cc))
gathered before after over old new ops ops' ended meaning going (inr (inl (is, same))) parsed =
    (parsed.0, parsed.1, subst (λ l. IsGathering before parsed.0 l after ended) (sym same) (after_heading before after parsed.0 ops ended meaning is parsed.2), λ e. absurd (let f = going in cc))
gathered before after over old new ops ops' ended meaning going (inr (inr (op, is, more))) parsed =
    (parsed.0, parsed.1, subst (λ l. IsGathering before parsed.0 l after ended) (sym more) (after_operation before after parsed.0 ops op ended meaning is parsed.2), λ e. absurd (let f = going in cc))

pub one_more_at_most : (meaning : Meaning) (ops ops' : List Op) → GoesOn meaning ops ops' → length ops' ≤ length ops + 1
one_more_at_most meaning ops ops' (inl (is, same)) = omega (arith, ap length same)
one_more_at_most meaning ops ops' (inr (inl (is, same))) = omega (arith, ap length same)
one_more_at_most meaning ops ops' (inr (inr (op, is, more))) = omega (arith, ap length more, length-append ops (op ∷ []))

-- what is false later was false before
pub was_going : (over ended : Bool) → (over ≡ true → ended ≡ true) → ended ≡ false → over ≡ false
was_going true ended stays going = absurd (let e = stays refl in cc)
was_going false ended stays going = refl
