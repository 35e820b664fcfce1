-- Equality of expressions without their places.
use Rattle.std.specs.Prelude.{Bool, true, false, ◌&&◌, List, [], ◌∷◌}
use Rattle.std.specs.Ordering.{int_eq}
use Rattle.std.specs.Str.{bytes_eq}
use denote.Enum.Bare.{sameb}
use Rattle.pgql_ast.specs.contracts.expr.Op as op
use Rattle.pgql_ast.specs.contracts.expr.Aggregate as aggregate
use Rattle.pgql_ast.specs.declared.expr.Op.{Op}
use Rattle.pgql_ast.specs.declared.expr.Expr.{Expr, out-Expr, roll-Expr, fold-Expr}
use Rattle.pgql_ast.specs.declared.expr.Node.{Node, out-Node, roll-Node, fold-Node}
use Rattle.pgql_ast.specs.declared.expr.Node.TheOpen.{Node-F, Expr-F}

-- The expression with each place 0.
abbrev pub without_places : Expr → Expr
without_places = fold-Expr Node Expr roll-Node (λ e. roll-Expr (record { place = 0; node = e.node }))

-- The node with each place in it 0.
abbrev pub node_without_places : Node → Node
node_without_places = fold-Node Node Expr roll-Node (λ e. roll-Expr (record { place = 0; node = e.node }))

-- The same as a test: an expression becomes the test whether another one equals it.
abbrev pub NodeTest : Type 0
NodeTest = Node → Bool

abbrev pub TreeTest : Type 0
TreeTest = Expr → Bool

-- lists of one length, tree by tree
abbrev pub same_list : List TreeTest → List Expr → Bool
same_list [] [] = true
same_list (f ∷ fs) (y ∷ ys) = f y && same_list fs ys
same_list _ _ = false

-- lists of one length, operator by operator and tree by tree
abbrev pub same_pairs : List (Op × TreeTest) → List (Op × Expr) → Bool
same_pairs [] [] = true
same_pairs (f ∷ fs) (y ∷ ys) = sameb op.the_type f.0 y.0 && f.1 y.1 && same_pairs fs ys
same_pairs _ _ = false

abbrev pub same_bool : Bool → Bool → Bool
same_bool true b = b
same_bool false true = false
same_bool false false = true

-- the same variant, part by part
abbrev pub same_node : Node-F NodeTest TreeTest → Node-F Node Expr → Bool
same_node (Node-F.Number n) (Node-F.Number m) = int_eq n m
same_node (Node-F.Chars t) (Node-F.Chars u) = bytes_eq t u
same_node (Node-F.Truth b) (Node-F.Truth c) = same_bool b c
same_node Node-F.Null Node-F.Null = true
same_node (Node-F.Date n) (Node-F.Date m) = int_eq n m
same_node (Node-F.Name t) (Node-F.Name u) = bytes_eq t u
same_node (Node-F.Prop t p) (Node-F.Prop u q) = bytes_eq t u && bytes_eq p q
same_node (Node-F.Function t fs) (Node-F.Function u ys) = bytes_eq t u && same_list fs ys
same_node Node-F.CountAll Node-F.CountAll = true
same_node (Node-F.Aggregate a d f) (Node-F.Aggregate b e y) = sameb aggregate.the_type a b && same_bool d e && f y
same_node (Node-F.Negate f) (Node-F.Negate y) = f y
same_node (Node-F.Not f) (Node-F.Not y) = f y
same_node (Node-F.Product f fs) (Node-F.Product y ys) = f y && same_pairs fs ys
same_node (Node-F.Sum f fs) (Node-F.Sum y ys) = f y && same_pairs fs ys
same_node (Node-F.Compare o f g) (Node-F.Compare p x y) = sameb op.the_type o p && f x && g y
same_node (Node-F.IsNull b f) (Node-F.IsNull c y) = same_bool b c && f y
same_node (Node-F.Member b f fs) (Node-F.Member c y ys) = same_bool b c && f y && same_list fs ys
same_node (Node-F.And fs) (Node-F.And ys) = same_list fs ys
same_node (Node-F.Or fs) (Node-F.Or ys) = same_list fs ys
same_node _ _ = false

abbrev pub node_test : Node-F NodeTest TreeTest → NodeTest
node_test layer = λ other. same_node layer (out-Node other)

-- The place is not read.
abbrev pub tree_test : Expr-F NodeTest TreeTest → TreeTest
tree_test e = λ other. e.node (out-Expr other).node

-- Whether two expressions are equal but for their places.
abbrev pub same_tree : Expr → Expr → Bool
same_tree = fold-Expr NodeTest TreeTest node_test tree_test

-- The same of two nodes.
abbrev pub same_node_tree : Node → Node → Bool
same_node_tree = fold-Node NodeTest TreeTest node_test tree_test
