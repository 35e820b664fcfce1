-- Whether one of the first places passes a test.
use Rattle.std.proofs.Common.{◌≡◌, ◌∙◌, ap, ℕ, ◌+◌, ◌<◌, Bool, true, false, arith}
use Rattle.std.specs.List.{list_any, range_with_len}
use Rattle.std.proofs.lemmas.List.FromFn.{get_or-range_with_len, length-range_with_len}
use Rattle.graph_model.proofs.Rows.{any_at, any_push_apart}
use Rattle.graph_model.proofs.TableParts.{range_more}

pub range_any : (has : ℕ → Bool) (n i : ℕ) → i < n → has i ≡ true → list_any has (range_with_len 0 n) ≡ true
range_any has n i within passes =
    any_at has (range_with_len 0 n) i 0 (omega (arith, within, length-range_with_len 0 n)) (ap has (get_or-range_with_len 0 n i 0 within) ∙ ap has (let e : 0 + i ≡ i = omega arith in e) ∙ passes)

pub range_none : (has : ℕ → Bool) (n : ℕ) → list_any has (range_with_len 0 n) ≡ false → has n ≡ false → list_any has (range_with_len 0 (n + 1)) ≡ false
range_none has n so_far here = ap (list_any has) (range_more n) ∙ any_push_apart has (range_with_len 0 n) n here ∙ so_far
