-- Lists of trees, compared by an index.
use Rattle.std.proofs.Common.{◌≡◌, ℕ, suc, ◌+◌, ◌<◌, Bool, true, false, ◌&&◌, List, [], ◌∷◌, map, drop, length, get_or, refl, sym, ap, ◌∙◌, add-one, drop-cons}
use Rattle.pgql_ast.specs.declared.expr.Expr.{Expr}
use denote.Enum.Bare.{sameb}
use Rattle.pgql_ast.specs.contracts.expr.Op as op
use Rattle.pgql_ast.specs.declared.expr.Op.{Op}
use Rattle.pgql_ast.specs.Same.{TreeTest, same_tree, same_list, same_pairs}

and_false : (b : Bool) → b && false ≡ false
and_false true = refl
and_false false = refl

differ : (fs : List TreeTest) (ys : List Expr) → (length fs ≡ length ys → ⊥) → same_list fs ys ≡ false
differ [] [] h = absurd (h refl)
differ [] (y ∷ ys) h = refl
differ (f ∷ fs) [] h = refl
differ (f ∷ fs) (y ∷ ys) h = ap (λ b. f y && b) (differ fs ys (λ e. h (ap suc e))) ∙ and_false (f y)

length-map : (xs : List Expr) → length (map same_tree xs) ≡ length xs
length-map [] = refl
length-map (x ∷ xs) = ap suc (length-map xs)

pub differ_list : (xs ys : List Expr) → (length xs ≡ length ys → ⊥) → same_list (map same_tree xs) ys ≡ false
differ_list xs ys h = differ (map same_tree xs) ys (λ e. h (sym (length-map xs) ∙ e))

pub step_list : (xs ys : List Expr) (i : ℕ) (d e : Expr) → i < length xs → i < length ys
    → same_list (map same_tree (drop i xs)) (drop i ys) ≡ same_tree (get_or xs i d) (get_or ys i e) && same_list (map same_tree (drop (i + 1) xs)) (drop (i + 1) ys)
step_list xs ys i d e h k =
    ap (λ l. same_list (map same_tree l) (drop i ys)) (drop-cons xs i d h) ∙ ap (λ l. same_list (same_tree (get_or xs i d) ∷ map same_tree (drop (suc i) xs)) l) (drop-cons ys i e k)
    ∙ ap (λ j. same_tree (get_or xs i d) (get_or ys i e) && same_list (map same_tree (drop j xs)) (drop j ys)) (sym (add-one i))

abbrev pub with_same : Op × Expr → Op × TreeTest
with_same p = (p.0, same_tree p.1)

differ_in : (fs : List (Op × TreeTest)) (ys : List (Op × Expr)) → (length fs ≡ length ys → ⊥) → same_pairs fs ys ≡ false
differ_in [] [] h = absurd (h refl)
differ_in [] (y ∷ ys) h = refl
differ_in (f ∷ fs) [] h = refl
differ_in (f ∷ fs) (y ∷ ys) h = ap (λ b. sameb op.the_type f.0 y.0 && f.1 y.1 && b) (differ_in fs ys (λ e. h (ap suc e))) ∙ and_false (sameb op.the_type f.0 y.0 && f.1 y.1)

length-with : (xs : List (Op × Expr)) → length (map with_same xs) ≡ length xs
length-with [] = refl
length-with (x ∷ xs) = ap suc (length-with xs)

pub differ_pairs : (xs ys : List (Op × Expr)) → (length xs ≡ length ys → ⊥) → same_pairs (map with_same xs) ys ≡ false
differ_pairs xs ys h = differ_in (map with_same xs) ys (λ e. h (sym (length-with xs) ∙ e))
