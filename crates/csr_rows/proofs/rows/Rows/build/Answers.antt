use Rattle.std.proofs.Common.{rules, ◌≡◌, ◌<◌, ◌≤◌, length, ap, sym, subst, ◌∙◌, arith}
use Rattle.std.proofs.lemmas.List.{length-map}
use Rattle.std.proofs.lemmas.List.Elements.{All-get_or}
use Rattle.std.proofs.lemmas.List.Sorted.{length_permutation}
use Rattle.csr_rows.specs.Rows.{row_count}
use Rattle.csr_rows.specs.Offsets.{pairs_of, place_in, AreOffsets}
use Rattle.csr_rows.proofs.Offsets.{length-pairs, count_few, offsets_rise, rows_read}
use Rattle.csr_rows.proofs.rows.Rows.build.Goals as goal

pub offsets_in-requires-clause-few : goal.offsets_in-requires-clause-few
offsets_in-requires-clause-few g c =
    let long = length_permutation (pairs_of c.args.ends.now) c.in_ok-pairs.pairs c.in_ok-pairs.ensures.same in
    let each = length-pairs 0 c.args.ends.now in
    search rules

pub offsets_in-requires-clause-rows : goal.offsets_in-requires-clause-rows
offsets_in-requires-clause-rows g c =
    let few : row_count c.args.ends.now ≤ c.args.n = count_few c.args.n 0 c.args.ends.now (omega arith) (λ k within. All-get_or (λ e. e < c.args.n) c.args.ends.now k 0 within c.requires.below) in
    search rules

pub invariant_of-result : goal.invariant_of-result
invariant_of-result g c =
    let pairs = c.as_slice.result.now in
    let long : length c.in_ok-places.places ≡ length pairs = ap length c.in_ok-places.ensures ∙ length-map c.as_slice-2.result.now place_in ∙ search rules in
    subst (λ offsets. AreOffsets offsets c.in_ok-places.places) (sym c.in_ok-offsets.ensures) (offsets_rise pairs c.row_count.result c.in_ok-places.places long)

pub returns-clause-ok : goal.returns-clause-ok
returns-clause-ok g c =
    let read = rows_read c.args.ends.now c.in_ok-pairs.pairs (omega (arith, c.requires.few)) c.in_ok-pairs.ensures.same c.in_ok-pairs.ensures.rising in
    search rules
