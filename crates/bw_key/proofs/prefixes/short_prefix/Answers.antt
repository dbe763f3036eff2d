use Rattle.std.proofs.Common.{ap, sym, ◌∙◌, add-one, arith, ◌*◌, ◌+◌}
use Rattle.bw_key.specs.Prefixes.{continued_by}
use Rattle.bw_key.proofs.PrefixLemmas.{digits_fit, one_more}
use Rattle.bw_key.proofs.prefixes.short_prefix.Goals as goal

pub overflow_mul-number : goal.overflow_mul-number
overflow_mul-number c =
    let fits = digits_fit c.loop-place.place c.loop-place.number 0 c.loop-place.invariant.1 c.loop-place-test.true (omega arith) in
    record { fits = omega (arith, fits.1) }

pub overflow_add-number : goal.overflow_add-number
overflow_add-number c =
    let fits = digits_fit c.loop-place.place c.loop-place.number c.byte_at.result c.loop-place.invariant.1 c.loop-place-test.true c.byte_at.ensures.bound in
    record { fits = fits.1 }

pub loop-place-preserved : goal.loop-place-preserved
loop-place-preserved c =
    let place = c.loop-place.place in
    let fits = digits_fit place c.loop-place.number c.byte_at.result c.loop-place.invariant.1 c.loop-place-test.true c.byte_at.ensures.bound in (
      ap (λ n. n * 256 + c.byte_at.result) c.loop-place.invariant.0
          ∙ ap (λ n. continued_by place 0 c.args.bytes.now * 256 + n) c.byte_at.ensures.byte
          ∙ sym (rw add-one (one_more place 0 c.args.bytes.now)),
      fits.0,
    )
