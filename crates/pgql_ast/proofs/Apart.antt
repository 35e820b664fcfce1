-- Trees pass the test of equality exactly where they are equal with each place 0.
use Rattle.std.proofs.Common.{rules, ◌≡◌, ℕ, Bool, true, false, true≢false, eqb, false-eqb, ◌&&◌, List, [], ◌∷◌, map, refl, sym, ap, ◌∙◌, subst}
use Rattle.std.specs.Bool.{Decides}
use Rattle.std.specs.Ordering.{int_eq}
use Rattle.std.specs.Str.{bytes_eq}
use Rattle.std.proofs.lemmas.Bool.Decides.{Decides-like, Decides-and, Decides-int_eq}
use Rattle.std.proofs.lemmas.Slice.Eq.{bytes_eq-Decides}
use denote.Enum.Bare.{sameb, same_true, true_same}
use Rattle.pgql_ast.specs.contracts.expr.Op as op
use Rattle.pgql_ast.specs.contracts.expr.Aggregate as aggregate
use Rattle.pgql_ast.specs.declared.expr.Op.{Op}
use Rattle.pgql_ast.specs.declared.expr.Aggregate.{Aggregate}
use Rattle.pgql_ast.specs.declared.expr.Expr.{Expr, out-Expr, roll-Expr}
use Rattle.pgql_ast.specs.declared.expr.Node.{Node, out-Node, roll-Node}
use Rattle.pgql_ast.specs.declared.expr.Node.TheOpen.{Node-F, Expr-F}
use Rattle.pgql_ast.specs.declared.expr.Node.TheViews.{out-roll-Node, out-roll-Expr}
use Rattle.pgql_ast.specs.declared.expr.Node.TheFolds.{map-Node, map-Expr, fold-roll-Node, fold-roll-Expr, fold_out-Node, fold_out-Expr, ind-Expr}
use Rattle.pgql_ast.specs.Same.{without_places, node_without_places, NodeTest, TreeTest, same_list, same_pairs, same_bool, same_node, node_test, tree_test, same_tree, same_node_tree}

abbrev SameNode : Node → Type 0
SameNode n = (m : Node) → Decides (same_node_tree n m) (node_without_places n ≡ node_without_places m)

abbrev SameExpr : Expr → Type 0
SameExpr e = (f : Expr) → Decides (same_tree e f) (without_places e ≡ without_places f)

-- a node, and an expression, with what is known of it
abbrev ToldNode : Type 0
ToldNode = (n : Node) × SameNode n

abbrev ToldExpr : Type 0
ToldExpr = (e : Expr) × SameExpr e

abbrev plain : Node-F ToldNode ToldExpr → Node-F Node Expr
plain = map-Node ToldNode ToldExpr Node Expr (λ n. n.0) (λ e. e.0)

abbrev tests : Node-F Node Expr → Node-F NodeTest TreeTest
tests = map-Node Node Expr NodeTest TreeTest same_node_tree same_tree

abbrev bare : Node-F Node Expr → Node-F Node Expr
bare = map-Node Node Expr Node Expr node_without_places without_places

same_op : (a b : Op) → Decides (sameb op.the_type a b) (a ≡ b)
same_op a b = (same_true op.the_type (search rules) a b, true_same op.the_type a b)

same_aggregate : (a b : Aggregate) → Decides (sameb aggregate.the_type a b) (a ≡ b)
same_aggregate a b = (same_true aggregate.the_type (search rules) a b, true_same aggregate.the_type a b)

same_flag : (a b : Bool) → Decides (same_bool a b) (a ≡ b)
same_flag true b = (λ e. sym e, λ e. sym e)
same_flag false true = (λ e. cc, λ e. cc)
same_flag false false = (λ _. refl, λ _. refl)

-- equal constructors have equal arguments, and the other way round

abbrev Layer : Type 0
Layer = Node-F Node Expr

expr_cons : (x y : Expr) (xs ys : List Expr) → x ∷ xs ≡ y ∷ ys → (x ≡ y) × (xs ≡ ys)
expr_cons x y xs ys e = (cc, cc)

cons_expr : (x y : Expr) (xs ys : List Expr) → (x ≡ y) × (xs ≡ ys) → x ∷ xs ≡ y ∷ ys
cons_expr x y xs ys h = cc

abbrev Operand : Type 0
Operand = Op × Expr

abbrev operand : Op → Expr → Operand
operand o x = (o, x)

operand_cons : (o p : Op) (x y : Expr) (xs ys : List Operand) → operand o x ∷ xs ≡ operand p y ∷ ys → ((o ≡ p) × (x ≡ y)) × (xs ≡ ys)
operand_cons o p x y xs ys e = let here : operand o x ≡ operand p y = cc in ((ap (λ (v : Operand). v.0) here, ap (λ (v : Operand). v.1) here), cc)

cons_operand : (o p : Op) (x y : Expr) (xs ys : List Operand) → ((o ≡ p) × (x ≡ y)) × (xs ≡ ys) → operand o x ∷ xs ≡ operand p y ∷ ys
cons_operand o p x y xs ys h = let here : operand o x ≡ operand p y = ap (λ v. operand v x) h.0.0 ∙ ap (operand p) h.0.1 in ap (λ v. v ∷ xs) here ∙ ap (λ (l : List Operand). operand p y ∷ l) h.1

abbrev function : List ℕ → List Expr → Layer
function t xs = Node-F.Function t xs

function_parts : (t u : List ℕ) (xs ys : List Expr) → function t xs ≡ function u ys → (t ≡ u) × (xs ≡ ys)
function_parts t u xs ys e = (cc, cc)

made_function : (t u : List ℕ) (xs ys : List Expr) → (t ≡ u) × (xs ≡ ys) → function t xs ≡ function u ys
made_function t u xs ys h = cc

abbrev product : Expr → List Operand → Layer
product x xs = Node-F.Product x xs

product_parts : (x y : Expr) (xs ys : List Operand) → product x xs ≡ product y ys → (x ≡ y) × (xs ≡ ys)
product_parts x y xs ys e = (cc, cc)

made_product : (x y : Expr) (xs ys : List Operand) → (x ≡ y) × (xs ≡ ys) → product x xs ≡ product y ys
made_product x y xs ys h = cc

abbrev sum : Expr → List Operand → Layer
sum x xs = Node-F.Sum x xs

sum_parts : (x y : Expr) (xs ys : List Operand) → sum x xs ≡ sum y ys → (x ≡ y) × (xs ≡ ys)
sum_parts x y xs ys e = (cc, cc)

made_sum : (x y : Expr) (xs ys : List Operand) → (x ≡ y) × (xs ≡ ys) → sum x xs ≡ sum y ys
made_sum x y xs ys h = cc

abbrev member : Bool → Expr → List Expr → Layer
member b x xs = Node-F.Member b x xs

member_parts : (a b : Bool) (x y : Expr) (xs ys : List Expr) → member a x xs ≡ member b y ys → ((a ≡ b) × (x ≡ y)) × (xs ≡ ys)
member_parts a b x y xs ys e = ((cc, cc), cc)

made_member : (a b : Bool) (x y : Expr) (xs ys : List Expr) → ((a ≡ b) × (x ≡ y)) × (xs ≡ ys) → member a x xs ≡ member b y ys
made_member a b x y xs ys h = cc

abbrev conjunction : List Expr → Layer
conjunction xs = Node-F.And xs

conjunction_parts : (xs ys : List Expr) → conjunction xs ≡ conjunction ys → xs ≡ ys
conjunction_parts xs ys e = cc

abbrev disjunction : List Expr → Layer
disjunction xs = Node-F.Or xs

disjunction_parts : (xs ys : List Expr) → disjunction xs ≡ disjunction ys → xs ≡ ys
disjunction_parts xs ys e = cc

abbrev exprs : List ToldExpr → List Expr
exprs = map (λ e. e.0)

same_exprs : (xs : List ToldExpr) (ys : List Expr) → Decides (same_list (map same_tree (exprs xs)) ys) (map without_places (exprs xs) ≡ map without_places ys)
same_exprs [] [] = (λ _. refl, λ _. refl)
same_exprs [] (y ∷ ys) = (λ e. cc, λ e. cc)
same_exprs (x ∷ xs) [] = (λ e. cc, λ e. cc)
same_exprs (x ∷ xs) (y ∷ ys) =
    Decides-like (same_tree x.0 y && same_list (map same_tree (exprs xs)) ys)
    (cons_expr (without_places x.0) (without_places y) (map without_places (exprs xs)) (map without_places ys))
    (expr_cons (without_places x.0) (without_places y) (map without_places (exprs xs)) (map without_places ys))
    (Decides-and (same_tree x.0 y) (same_list (map same_tree (exprs xs)) ys) (x.1 y) (same_exprs xs ys))

abbrev pairs : List (Op × ToldExpr) → List (Op × Expr)
pairs = map (λ p. (p.0, p.1.0))

abbrev pair_tests : List (Op × Expr) → List (Op × TreeTest)
pair_tests = map (λ p. (p.0, same_tree p.1))

abbrev bare_pairs : List (Op × Expr) → List (Op × Expr)
bare_pairs = map (λ p. (p.0, without_places p.1))

same_operands : (xs : List (Op × ToldExpr)) (ys : List (Op × Expr)) → Decides (same_pairs (pair_tests (pairs xs)) ys) (bare_pairs (pairs xs) ≡ bare_pairs ys)
same_operands [] [] = (λ _. refl, λ _. refl)
same_operands [] (y ∷ ys) = (λ e. cc, λ e. cc)
same_operands (x ∷ xs) [] = (λ e. cc, λ e. cc)
same_operands (x ∷ xs) (y ∷ ys) =
    let here : Decides (sameb op.the_type x.0 y.0 && same_tree x.1.0 y.1) ((x.0 ≡ y.0) × (without_places x.1.0 ≡ without_places y.1)) =
    Decides-and (sameb op.the_type x.0 y.0) (same_tree x.1.0 y.1) (same_op x.0 y.0) (x.1.1 y.1) in
    Decides-like (sameb op.the_type x.0 y.0 && same_tree x.1.0 y.1 && same_pairs (pair_tests (pairs xs)) ys)
    (cons_operand x.0 y.0 (without_places x.1.0) (without_places y.1) (bare_pairs (pairs xs)) (bare_pairs ys))
    (operand_cons x.0 y.0 (without_places x.1.0) (without_places y.1) (bare_pairs (pairs xs)) (bare_pairs ys))
    (Decides-and (sameb op.the_type x.0 y.0 && same_tree x.1.0 y.1) (same_pairs (pair_tests (pairs xs)) ys) here (same_operands xs ys))

-- the number of a form
abbrev form : Layer → ℕ
form (Node-F.Number _) = 0
form (Node-F.Chars _) = 1
form (Node-F.Truth _) = 2
form Node-F.Null = 3
form (Node-F.Date _) = 4
form (Node-F.Name _) = 5
form (Node-F.Prop _ _) = 6
form (Node-F.Function _ _) = 7
form Node-F.CountAll = 8
form (Node-F.Aggregate _ _ _) = 9
form (Node-F.Negate _) = 10
form (Node-F.Not _) = 11
form (Node-F.Product _ _) = 12
form (Node-F.Sum _ _) = 13
form (Node-F.Compare _ _ _) = 14
form (Node-F.IsNull _ _) = 15
form (Node-F.Member _ _ _) = 16
form (Node-F.And _) = 17
form (Node-F.Or _) = 18

-- Layers of different forms are apart. The last clause of `same_layer` is checked for each of 342 pairs of forms, so it only computes.
apart : (b : Bool) (x y : Layer) → b ≡ false → false ≡ eqb (form x) (form y) → Decides b (x ≡ y)
apart b x y off differ = (λ e. absurd (true≢false (sym e ∙ off)), λ e. absurd (false-eqb (form x) (form y) differ (ap form e)))

abbrev SameLayer : Node-F ToldNode ToldExpr → Node-F Node Expr → Type 0
SameLayer x y = Decides (same_node (tests (plain x)) y) (bare (plain x) ≡ bare y)

same_layer : (x : Node-F ToldNode ToldExpr) (y : Node-F Node Expr) → SameLayer x y
same_layer (Node-F.Number n) (Node-F.Number m) = Decides-like (int_eq n m) (λ h. cc) (λ e. cc) (Decides-int_eq n m)
same_layer (Node-F.Chars t) (Node-F.Chars u) = Decides-like (bytes_eq t u) (λ h. cc) (λ e. cc) (bytes_eq-Decides t u)
same_layer (Node-F.Truth a) (Node-F.Truth b) = Decides-like (same_bool a b) (λ h. cc) (λ e. cc) (same_flag a b)
same_layer Node-F.Null Node-F.Null = (λ _. refl, λ _. refl)
same_layer (Node-F.Date n) (Node-F.Date m) = Decides-like (int_eq n m) (λ h. cc) (λ e. cc) (Decides-int_eq n m)
same_layer (Node-F.Name t) (Node-F.Name u) = Decides-like (bytes_eq t u) (λ h. cc) (λ e. cc) (bytes_eq-Decides t u)
same_layer (Node-F.Prop t p) (Node-F.Prop u q) =
    Decides-like (bytes_eq t u && bytes_eq p q) (λ h. cc) (λ e. (cc, cc)) (Decides-and (bytes_eq t u) (bytes_eq p q) (bytes_eq-Decides t u) (bytes_eq-Decides p q))
same_layer (Node-F.Function t xs) (Node-F.Function u ys) =
    Decides-like (bytes_eq t u && same_list (map same_tree (exprs xs)) ys)
    (made_function t u (map without_places (exprs xs)) (map without_places ys)) (function_parts t u (map without_places (exprs xs)) (map without_places ys))
    (Decides-and (bytes_eq t u) (same_list (map same_tree (exprs xs)) ys) (bytes_eq-Decides t u) (same_exprs xs ys))
same_layer Node-F.CountAll Node-F.CountAll = (λ _. refl, λ _. refl)
same_layer (Node-F.Aggregate a d x) (Node-F.Aggregate b e y) =
    let flags : Decides (sameb aggregate.the_type a b && same_bool d e) ((a ≡ b) × (d ≡ e)) =
    Decides-and (sameb aggregate.the_type a b) (same_bool d e) (same_aggregate a b) (same_flag d e) in
    Decides-like (sameb aggregate.the_type a b && same_bool d e && same_tree x.0 y) (λ h. cc) (λ e. ((cc, cc), cc))
    (Decides-and (sameb aggregate.the_type a b && same_bool d e) (same_tree x.0 y) flags (x.1 y))
same_layer (Node-F.Negate x) (Node-F.Negate y) = Decides-like (same_tree x.0 y) (λ h. cc) (λ e. cc) (x.1 y)
same_layer (Node-F.Not x) (Node-F.Not y) = Decides-like (same_tree x.0 y) (λ h. cc) (λ e. cc) (x.1 y)
same_layer (Node-F.Product x xs) (Node-F.Product y ys) =
    Decides-like (same_tree x.0 y && same_pairs (pair_tests (pairs xs)) ys)
    (made_product (without_places x.0) (without_places y) (bare_pairs (pairs xs)) (bare_pairs ys)) (product_parts (without_places x.0) (without_places y) (bare_pairs (pairs xs)) (bare_pairs ys))
    (Decides-and (same_tree x.0 y) (same_pairs (pair_tests (pairs xs)) ys) (x.1 y) (same_operands xs ys))
same_layer (Node-F.Sum x xs) (Node-F.Sum y ys) =
    Decides-like (same_tree x.0 y && same_pairs (pair_tests (pairs xs)) ys)
    (made_sum (without_places x.0) (without_places y) (bare_pairs (pairs xs)) (bare_pairs ys)) (sum_parts (without_places x.0) (without_places y) (bare_pairs (pairs xs)) (bare_pairs ys))
    (Decides-and (same_tree x.0 y) (same_pairs (pair_tests (pairs xs)) ys) (x.1 y) (same_operands xs ys))
same_layer (Node-F.Compare o x v) (Node-F.Compare p y w) =
    let left : Decides (sameb op.the_type o p && same_tree x.0 y) ((o ≡ p) × (without_places x.0 ≡ without_places y)) =
    Decides-and (sameb op.the_type o p) (same_tree x.0 y) (same_op o p) (x.1 y) in
    Decides-like (sameb op.the_type o p && same_tree x.0 y && same_tree v.0 w) (λ h. cc) (λ e. ((cc, cc), cc))
    (Decides-and (sameb op.the_type o p && same_tree x.0 y) (same_tree v.0 w) left (v.1 w))
same_layer (Node-F.IsNull a x) (Node-F.IsNull b y) =
    Decides-like (same_bool a b && same_tree x.0 y) (λ h. cc) (λ e. (cc, cc)) (Decides-and (same_bool a b) (same_tree x.0 y) (same_flag a b) (x.1 y))
same_layer (Node-F.Member a x xs) (Node-F.Member b y ys) =
    let left : Decides (same_bool a b && same_tree x.0 y) ((a ≡ b) × (without_places x.0 ≡ without_places y)) =
    Decides-and (same_bool a b) (same_tree x.0 y) (same_flag a b) (x.1 y) in
    Decides-like (same_bool a b && same_tree x.0 y && same_list (map same_tree (exprs xs)) ys)
    (made_member a b (without_places x.0) (without_places y) (map without_places (exprs xs)) (map without_places ys))
    (member_parts a b (without_places x.0) (without_places y) (map without_places (exprs xs)) (map without_places ys))
    (Decides-and (same_bool a b && same_tree x.0 y) (same_list (map same_tree (exprs xs)) ys) left (same_exprs xs ys))
same_layer (Node-F.And xs) (Node-F.And ys) =
    Decides-like (same_list (map same_tree (exprs xs)) ys) (ap conjunction) (conjunction_parts (map without_places (exprs xs)) (map without_places ys)) (same_exprs xs ys)
same_layer (Node-F.Or xs) (Node-F.Or ys) =
    Decides-like (same_list (map same_tree (exprs xs)) ys) (ap disjunction) (disjunction_parts (map without_places (exprs xs)) (map without_places ys)) (same_exprs xs ys)
same_layer x y = apart (same_node (tests (plain x)) y) (bare (plain x)) (bare y) refl refl

abbrev expr_made : Node → Expr
expr_made n = roll-Expr (record { place = 0; node = n })

abbrev layer_of : Node → Expr-F Node Expr
layer_of n = record { place = 0; node = n }

made_node : (n m : Node) → expr_made n ≡ expr_made m → n ≡ m
made_node n m e = ap (λ (x : Expr-F Node Expr). x.node) (sym (out-roll-Expr (layer_of n)) ∙ ap out-Expr e ∙ out-roll-Expr (layer_of m))

abbrev bare_expr : Expr-F Node Expr → Expr
bare_expr e = roll-Expr (record { place = 0; node = e.node })

node_rolled : (x : Node-F ToldNode ToldExpr) → SameNode (roll-Node (plain x))
node_rolled x m =
    let test : same_node_tree (roll-Node (plain x)) m ≡ same_node (tests (plain x)) (out-Node m) =
    ap (λ (f : NodeTest). f m) (fold-roll-Node NodeTest TreeTest node_test tree_test (plain x)) in
    let left : node_without_places (roll-Node (plain x)) ≡ roll-Node (bare (plain x)) = fold-roll-Node Node Expr roll-Node bare_expr (plain x) in
    let right : node_without_places m ≡ roll-Node (bare (out-Node m)) = fold_out-Node Node Expr roll-Node bare_expr m in
    let layer : SameLayer x (out-Node m) = same_layer x (out-Node m) in (
      λ e. left ∙ ap roll-Node (layer.0 (sym test ∙ e)) ∙ sym right,
      λ e. test ∙ layer.1 (sym (out-roll-Node (bare (plain x))) ∙ ap out-Node (sym left ∙ e ∙ right) ∙ out-roll-Node (bare (out-Node m))),
    )

expr_rolled : (x : Expr-F ToldNode ToldExpr) → SameExpr (roll-Expr (map-Expr ToldNode ToldExpr Node Expr (λ n. n.0) (λ e. e.0) x))
expr_rolled x f =
    let y : Expr-F Node Expr = map-Expr ToldNode ToldExpr Node Expr (λ n. n.0) (λ e. e.0) x in
    let test : same_tree (roll-Expr y) f ≡ same_node_tree x.node.0 (out-Expr f).node =
    ap (λ (t : TreeTest). t f) (fold-roll-Expr NodeTest TreeTest node_test tree_test y) in
    let left : without_places (roll-Expr y) ≡ expr_made (node_without_places x.node.0) = fold-roll-Expr Node Expr roll-Node bare_expr y in
    let right : without_places f ≡ expr_made (node_without_places (out-Expr f).node) = fold_out-Expr Node Expr roll-Node bare_expr f in
    let inner = x.node.1 (out-Expr f).node in (
      λ e. left ∙ ap expr_made (inner.0 (sym test ∙ e)) ∙ sym right,
      λ e. test ∙ inner.1 (made_node (node_without_places x.node.0) (node_without_places (out-Expr f).node) (sym left ∙ e ∙ right)),
    )

pub same_tree-decides : (e f : Expr) → Decides (same_tree e f) (without_places e ≡ without_places f)
same_tree-decides =
    ind-Expr SameNode SameExpr (λ x y is. subst (λ z. SameNode (roll-Node z)) is (node_rolled y)) (λ x y is. subst (λ z. SameExpr (roll-Expr z)) is (expr_rolled y))
