use Rattle.std.proofs.Common.{◌≡◌, ◌++◌, ◌∷◌, [], sym, ◌∙◌, arith}
use Rattle.algo_rank.proofs.Heads.{popped, rise_popped, some_popped, all_popped, none_past}
use Rattle.algo_rank.proofs.blocks.join_blocks.Goals as goal

pub heads-preserved : goal.heads-preserved
heads-preserved c =
    let xs = c.heads.heads.items in
    let inv = c.heads.invariant in
    let f = c.ends_past.ensures.0 c.heads-test.true in
    let is : xs ≡ f.0 ++ f.1 ∷ [] = sym c.as_slice.ensures.value ∙ f.2 in
    let rest : c.pop.new.self.items ≡ f.0 = popped xs c.pop.new.self.items f.0 f.1 c.heads.heads.len is (omega (arith, c.heads.heads.ok.0)) c.pop.ensures.rest in
    rw rest (record {
      rise = rise_popped c.args.place xs f.0 f.1 is f.3 inv.rise;
      some = λ h head. inv.some h (some_popped c.args.place xs f.0 f.1 is f.3 h head);
      all = λ h head low. all_popped c.args.place xs f.0 f.1 is f.3 h (inv.all h head low) low;
    })

pub returns : goal.returns
returns c =
    let xs = c.heads.heads.items in
    let inv = c.heads.invariant in
    record {
      rise = inv.rise;
      some = inv.some;
      low = none_past xs c.args.place inv.rise (λ f. (let past = c.ends_past.ensures.1 (f.0, f.1, c.as_slice.ensures.value ∙ f.2, f.3) in let no : ⊥ = cc in no));
      all = inv.all;
    }
