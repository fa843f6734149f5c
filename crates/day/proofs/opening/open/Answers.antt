use Rattle.std.proofs.Common.{◌≡◌, ℕ, ◌-◌, ◌*◌, ◌≤◌, List, length, take, drop, ap, ◌∙◌, subst, arith}
use Rattle.std.proofs.lemmas.List.{take_rest}
use Rattle.std.proofs.lemmas.Bool.Decides.{nat_tests}
use Rattle.day.specs.Bytes.{whole_words}
use Rattle.day.specs.Opening.{sheet_count, opening_size}
use Rattle.day.proofs.opening.open.Goals as goal

sheet_bytes : (bs : List ℕ) (size : ℕ) → size ≡ opening_size bs → sheet_count bs ≤ 4096 → size - 4 ≡ 4 * sheet_count bs
sheet_bytes bs size is few = grind (arith, nat_tests)

pub returns : goal.returns
returns c =
    let few : sheet_count c.args.bytes.now ≤ 4096 = subst (λ n. n ≤ 4096) c.sheet_count.ensures c.if-sheet_count-gt4096.false in (
      subst (λ n. n ≤ length c.args.bytes.now) c.opening_size-size.ensures c.if-bytes-size.false,
      few,
      c.in_ok-words.ensures
          ∙ ap (λ (n : ℕ). whole_words (take n (drop 4 c.args.bytes.now))) (sheet_bytes c.args.bytes.now c.opening_size-size.result c.opening_size-size.ensures few),
      take_rest c.args.bytes.now c.opening_size-size.result ∙ ap (λ (n : ℕ). drop n c.args.bytes.now) c.opening_size-size.ensures,
    )
