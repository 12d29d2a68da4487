-- `settling::instruction_text::put_noise_line` meets its contract. Assumes nothing.
use lib.ListN.{length}
use Prim.Native.Nat.{◌≤◌}
use mathlib.Core.Path.{◌≡◌, sym}
use Rattle.std.proofs.Common.{Err, rules}
use Rattle.faults.specs.Elements.{AllInside}
use Rattle.settling.specs.Laws.Instruction.{few_shots, few_lines, noise_is, noise_here, ready_here, noise_spent, noise_done}
use lib.Seq.{length-take-le}
use native.Mathlib.Omega.{arith}
use Rattle.settling.proofs.instruction_text.put_noise_line.Goals as goal

pub prepare-ready-requires : goal.prepare-ready-requires
prepare-ready-requires c = (
  noise_here c.requires.0 c.requires.2 c.requires.3,
  record { of_values = c.args.values.whole; of_elements = c.requires.4; of_sums = c.requires.5; of_weights = c.requires.6; of_mask = omega (arith, c.requires.7, few_shots c.requires.0, c.requires.0.words_are) },
)

pub slice_bounds-put_noise-end : goal.slice_bounds-put_noise-end
slice_bounds-put_noise-end c = omega (arith, c.requires.5, (c.prepare-ready.ensures (noise_here c.requires.0 c.requires.2 c.requires.3)).lines, (noise_is c.requires.0 c.requires.2 c.requires.3).few, c.prepare-ready.auto)

pub slice_bounds-put_noise-end-2 : goal.slice_bounds-put_noise-end-2
slice_bounds-put_noise-end-2 c = sym (length-take-le _ _ (omega (arith, c.requires.5, (c.prepare-ready.ensures (noise_here c.requires.0 c.requires.2 c.requires.3)).lines, (noise_is c.requires.0 c.requires.2 c.requires.3).few, c.prepare-ready.auto)))

pub put_noise-requires : goal.put_noise-requires
put_noise-requires c =
    let ready = c.prepare-ready.ensures (noise_here c.requires.0 c.requires.2 c.requires.3) in (
      omega (arith, few_shots c.requires.0, c.requires.1),
      c.requires.0.position,
      ready_here c.requires.0 c.requires.2 c.requires.3 ready (omega (arith, c.requires.4, c.prepare-ready.auto)) (omega (arith, c.requires.7, c.prepare-ready.auto)),
    )

pub overflow_add-result : goal.overflow_add-result
overflow_add-result c = record { fits = omega (arith, few_lines c.requires.0) }

pub overflow_add-result-2 : goal.overflow_add-result-2
overflow_add-result-2 c = record { fits = omega (arith, few_lines c.requires.0, (c.prepare-ready.ensures (noise_here c.requires.0 c.requires.2 c.requires.3)).lines, (noise_is c.requires.0 c.requires.2 c.requires.3).few) }

pub returns-in_err-drawn : goal.returns-in_err-drawn
returns-in_err-drawn c =
    let b = c.requires.0 in
    let n = c.requires.2 in
    let noisy = c.requires.3 in
    let ready = c.prepare-ready.ensures (noise_here b n noisy) in
    let room : AllInside c.prepare-ready.new.elements = omega (arith, c.requires.4, c.prepare-ready.auto) in
    let masked : 64 ≤ length c.prepare-ready.new.mask = omega (arith, c.requires.7, c.prepare-ready.auto) in
    let failed : c.from_residual.result ≡ Err c.in_err-drawn.field-0.0 = search rules in
    rw failed (noise_spent b n noisy ready room masked {out = c.args.out.now} {after = c.put_noise.new.out} (c.put_noise.ensures (ready_here b n noisy ready room masked) _) _ c.in_err-drawn.was)

pub returns : goal.returns
returns c =
    let b = c.requires.0 in
    let n = c.requires.2 in
    let noisy = c.requires.3 in
    let ready = c.prepare-ready.ensures (noise_here b n noisy) in
    let room : AllInside c.prepare-ready.new.elements = omega (arith, c.requires.4, c.prepare-ready.auto) in
    let masked : 64 ≤ length c.prepare-ready.new.mask = omega (arith, c.requires.7, c.prepare-ready.auto) in
    noise_done b n noisy ready room masked {out = c.args.out.now} {after = c.put_noise.new.out} (c.put_noise.ensures (ready_here b n noisy ready room masked) _) _ c.in_ok-drawn.was
