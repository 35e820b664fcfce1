-- The reader of queries fits their grammar, rule by rule.
use Rattle.std.proofs.Common.{ℕ, ◌≤◌, Bool, true, false, [], None, refl}
use Rattle.pgql_ast.specs.declared.expr.Expr.{Expr}
use Rattle.pgql_ast.specs.declared.pattern.Way.TheVariants.{Right, Either}
use Rattle.pgql_grammar.specs.declared.piece.Piece.{Piece}
use Rattle.pgql_grammar.specs.declared.piece.Level.TheVariants.{Whole}
use Rattle.pgql_grammar.specs.declared.piece.Sym.{Sym}
use Rattle.pgql_grammar.specs.declared.piece.Sym.TheVariants as s
use Rattle.pgql_grammar.specs.Sorts.{is, is_label, is_edge}
use Rattle.pgql_grammar.specs.Language.{Lang, many}
use Rattle.pgql_grammar.specs.Reading.{Parser}
use Rattle.pgql_grammar.specs.Clauses as g
use Rattle.pgql_grammar.specs.Clauses.{Text, Cut, nameless}
use Rattle.pgql_grammar.specs.QueryReader as r
use Rattle.pgql_grammar.proofs.Fitting.{Fits, any, both, done, next, fits-as, fits-equal, fits-bind, fits-choose, fits-if, fits-all}
use Rattle.pgql_grammar.proofs.Forms.{fits-maybe, fits-optional, fits-separated}
use Rattle.pgql_grammar.proofs.LanguageLaws.{eq-many}
use Rattle.pgql_grammar.proofs.EdgeForms.{middle, arrow, forward, backward, behind, after_sign, step_once}
use Rattle.pgql_grammar.proofs.ExpressionFits.{loose, starts_not, fits-nested}

-- ---- names and patterns

-- what may stand behind the labels of an element
abbrev closes : Sym → Bool
closes = both (is s.Close) (is s.CloseSquare)

module _ (k : ℕ) where
  abbrev F : {A : Type 0} → Parser A → Lang A → (Sym → Bool) → (Sym → Bool) → Type 0
  F p L first stop = Fits k p p L L first stop

  fits-name : F r.name g.name (is s.Name) any
  unfolding r.name g.name is
  fits-name = fits-bind (next (is s.Name) s.Name refl refl) (λ x. done any _) refl

  fits-graph_name : F r.graph_name g.graph_name (is s.Name) any
  unfolding r.graph_name g.graph_name is
  fits-graph_name = fits-bind (next (is s.Name) s.Name refl refl) (λ x. done any _) refl

  fits-label : F r.label g.label is_label any
  unfolding r.label g.label is is_label
  fits-label = fits-bind (next is_label s.Name refl refl) (λ x. done any _) refl

  fits-labels : F r.labels g.labels (both (is s.Colon) closes) closes
  unfolding r.labels r.some_labels g.labels is is_label
  fits-labels = fits-choose (is s.Colon) closes (fits-bind (next (is s.Colon) s.Colon refl refl)
      (λ _. fits-bind (fits-separated s.Bar closes refl refl fits-label refl refl refl) (λ found. done closes found) refl) refl) (done closes []) refl refl refl refl

  fits-variable : F r.variable g.variable (both (is s.Name) (both (is s.Colon) closes)) (both (is s.Colon) closes)
  unfolding r.variable r.some_name g.variable is
  fits-variable = fits-choose (is s.Name) (both (is s.Colon) closes) (fits-bind (next (is s.Name) s.Name refl refl) (λ x. done any _) refl) (done (both (is s.Colon) closes) None) refl refl refl refl

  abbrev starts_element : Sym → Bool
  starts_element = both (is s.Name) (both (is s.Colon) closes)

  fits-element : (x : Piece) → F (r.element x) (g.element x) starts_element closes
  unfolding r.element g.element is
  fits-element x = fits-bind fits-variable (λ bound. fits-bind fits-labels (λ found. done closes _) refl) refl

  fits-vertex : F r.vertex g.vertex (is s.Open) any
  unfolding r.vertex g.vertex is
  fits-vertex = fits-bind (next (is s.Open) s.Open refl refl) (λ x. fits-bind (fits-element x) (λ e. fits-bind (next (is s.Close) s.Close refl refl) (λ _. done any e) refl) refl) refl

  fits-inner : (x : Piece) → F (r.inner x) (g.inner x) (is s.OpenSquare) any
  unfolding r.inner g.inner is
  fits-inner x = fits-bind (next (is s.OpenSquare) s.OpenSquare refl refl) (λ _. fits-bind (fits-element x) (λ e. fits-bind (next (is s.CloseSquare) s.CloseSquare refl refl) (λ _. done any e) refl) refl) refl

  -- ---- edges

  abbrev behind_middle : Sym → Bool
  behind_middle = both (is s.Greater) (is s.Open)

  fits-middle : (x : Piece) → F (r.middle x) (middle x) (both (is s.OpenSquare) behind_middle) behind_middle
  unfolding r.middle r.described is
  fits-middle x = fits-choose (is s.OpenSquare) behind_middle (fits-bind (fits-inner x) (λ e. fits-bind (next (is s.Minus) s.Minus refl refl) (λ _. done any e) refl) refl)
      (done behind_middle _) refl refl refl refl

  fits-arrow : F r.arrow arrow (both (is s.Greater) (is s.Open)) (is s.Open)
  unfolding r.arrow r.pointed is
  fits-arrow = fits-choose (is s.Greater) (is s.Open) (fits-bind (next (is s.Greater) s.Greater refl refl) (λ _. done any Right) refl) (done (is s.Open) Either) refl refl refl refl

  abbrev starts_behind : Sym → Bool
  starts_behind = both (is s.Minus) (both (is s.OpenSquare) behind_middle)

  fits-forward : (x : Piece) → F (r.forward x) (forward x) starts_behind (is s.Open)
  unfolding r.forward is
  fits-forward x = fits-as starts_behind (is s.Open) (fits-bind (fits-middle x) (λ e. fits-bind fits-arrow (λ way. done (is s.Open) _) refl) refl) refl refl

  fits-backward : (x : Piece) → F (r.backward x) (backward x) starts_behind (is s.Open)
  unfolding r.backward is
  fits-backward x = fits-as starts_behind (is s.Open) (fits-bind (next (is s.Minus) s.Minus refl refl) (λ _. fits-bind (fits-middle x) (λ e. done (is s.Open) _) refl) refl) refl refl

  fits-behind : (x : Piece) → F (r.behind x) (behind x) starts_behind (is s.Open)
  unfolding r.behind
  fits-behind x = fits-if (is s.Minus x.sym) (fits-forward x) (fits-backward x)

  fits-step : (x : Piece) → F (r.step x) (after_sign x) starts_behind any
  unfolding r.step is
  fits-step x = fits-bind (fits-behind x) (λ e. fits-bind fits-vertex (λ v. done any _) refl) refl

  -- what may stand behind a pattern: the next one, a clause or the end
  abbrev pub behind_pattern : Sym → Bool
  behind_pattern s.Comma = true
  behind_pattern s.Where = true
  behind_pattern s.Group = true
  behind_pattern s.Having = true
  behind_pattern s.Order = true
  behind_pattern s.Limit = true
  behind_pattern s.Offset = true
  behind_pattern s.End = true
  behind_pattern _ = false

  abbrev behind_steps : Sym → Bool
  behind_steps = both (is s.On) behind_pattern

  fits-steps : F r.steps (many g.step) (both is_edge behind_steps) behind_steps
  unfolding r.steps is
  fits-steps = fits-equal (eq-many step_once) (eq-many step_once) (fits-all is_edge behind_steps s.Minus refl refl fits-step refl refl refl)

  fits-pattern : F r.pattern g.pattern (is s.Match) behind_pattern
  unfolding r.pattern g.pattern is
  fits-pattern = fits-bind (next (is s.Match) s.Match refl refl) (λ _. fits-bind fits-vertex (λ first. fits-bind fits-steps
      (λ steps. fits-bind (fits-optional s.On behind_pattern refl refl fits-graph_name refl refl) (λ graph. done behind_pattern _) refl) refl) refl) refl

  -- ---- bounds

  fits-amount : F r.amount g.amount (is s.Number) any
  unfolding r.amount g.amount is
  fits-amount = fits-bind (next (is s.Number) s.Number refl refl) (λ x. done any _) refl

  abbrev cuts : Sym → Bool
  cuts = both (is s.Limit) (both (is s.Offset) (is s.End))

  fits-cut : F r.cut g.cut cuts (is s.End)
  unfolding r.cut r.limit_first r.offset_first g.cut is
  fits-cut = fits-as cuts (is s.End) (fits-choose (is s.Limit) (is s.End)
      (fits-bind (next (is s.Limit) s.Limit refl refl) (λ _. fits-bind fits-amount (λ most. fits-bind (fits-optional s.Offset (is s.End) refl refl fits-amount refl refl) (λ skipped. done (is s.End) _) refl) refl) refl)
      (fits-choose (is s.Offset) (is s.End)
      (fits-bind (next (is s.Offset) s.Offset refl refl) (λ _. fits-bind fits-amount (λ skipped. fits-bind (fits-optional s.Limit (is s.End) refl refl fits-amount refl refl) (λ most. done (is s.End) _) refl) refl) refl)
      (done (is s.End) _) refl refl refl refl) refl refl refl refl) refl refl

-- ---- clauses with expressions

-- the beginnings of the clauses behind the patterns
abbrev from_keys : Sym → Bool
from_keys = both (is s.Order) (both (is s.Limit) (both (is s.Offset) (is s.End)))

abbrev from_having : Sym → Bool
from_having = both (is s.Having) from_keys

abbrev from_groups : Sym → Bool
from_groups = both (is s.Group) from_having

abbrev from_where : Sym → Bool
from_where = both (is s.Where) from_groups

module _ (k : ℕ) (p q : Parser Expr) (L M : Lang Expr) (expr : Fits k p q L M starts_not (loose 1)) where
  abbrev FK : {A : Type 0} → Parser A → Parser A → Lang A → Lang A → (Sym → Bool) → (Sym → Bool) → Type 0
  FK o t N O first stop = Fits k o t N O first stop

  abbrev behind_item : Sym → Bool
  behind_item = both (is s.Comma) (is s.From)

  fits-item : FK (r.item p) (r.item q) (g.item L) (g.item M) starts_not behind_item
  unfolding r.item g.item is
  fits-item = fits-bind expr (λ value. fits-bind (fits-optional s.As behind_item refl refl (fits-name k) refl refl) (λ alias. done behind_item _) refl) refl

  abbrev behind_key : Sym → Bool
  behind_key = both (is s.Comma) (both (is s.Limit) (both (is s.Offset) (is s.End)))

  fits-direction : FK r.direction r.direction g.direction g.direction (both (is s.Asc) (both (is s.Desc) behind_key)) behind_key
  unfolding r.direction g.direction is
  fits-direction = fits-choose (is s.Asc) behind_key (fits-bind (next (is s.Asc) s.Asc refl refl) (λ _. done any false) refl) (fits-maybe s.Desc behind_key refl refl refl) refl refl refl refl

  fits-key : FK (r.key p) (r.key q) (g.key L) (g.key M) starts_not behind_key
  unfolding r.key g.key is
  fits-key = fits-bind expr (λ value. fits-bind fits-direction (λ descending. done behind_key _) refl) refl

  fits-groups : FK (r.groups p) (r.groups q) (g.groups L) (g.groups M) from_groups from_having
  unfolding r.groups r.some_groups g.groups is
  fits-groups = fits-choose (is s.Group) from_having (fits-bind (next (is s.Group) s.Group refl refl) (λ _. fits-bind (next (is s.By) s.By refl refl)
      (λ _. fits-bind (fits-separated s.Comma from_having refl refl expr refl refl refl) (λ found. done from_having found) refl) refl) refl) (done from_having []) refl refl refl refl

  abbrev from_cut : Sym → Bool
  from_cut = both (is s.Limit) (both (is s.Offset) (is s.End))

  fits-keys : FK (r.keys p) (r.keys q) (g.keys L) (g.keys M) from_keys from_cut
  unfolding r.keys r.some_keys g.keys is
  fits-keys = fits-choose (is s.Order) from_cut (fits-bind (next (is s.Order) s.Order refl refl) (λ _. fits-bind (next (is s.By) s.By refl refl)
      (λ _. fits-bind (fits-separated s.Comma from_cut refl refl fits-key refl refl refl) (λ found. done from_cut found) refl) refl) refl) (done from_cut []) refl refl refl refl

  pub fits-query : FK (r.query p) (r.query q) (g.query L) (g.query M) (is s.Select) (is s.End)
  unfolding r.query g.query is
  fits-query = fits-bind (next (is s.Select) s.Select refl refl) (λ _.
      fits-bind (fits-maybe s.Distinct starts_not refl refl refl) (λ distinct.
      fits-bind (fits-separated s.Comma (is s.From) refl refl fits-item refl refl refl) (λ items.
      fits-bind (next (is s.From) s.From refl refl) (λ _.
      fits-bind (fits-separated s.Comma from_where refl refl (fits-pattern k) refl refl refl) (λ matches.
      fits-bind (fits-optional s.Where from_groups refl refl expr refl refl) (λ condition.
      fits-bind fits-groups (λ groups.
      fits-bind (fits-optional s.Having from_keys refl refl expr refl refl) (λ having.
      fits-bind fits-keys (λ keys.
      fits-bind (fits-cut k) (λ bounds. done (is s.End) _) refl) refl) refl) refl) refl) refl) refl) refl) refl) refl

-- up to k pieces in, any nesting from k on reads the same
pub fits-query_to : (k n m : ℕ) → k ≤ n → n ≤ m → Fits k (r.query_to n) (r.query_to m) (g.query_to n) (g.query_to m) (is s.Select) (is s.End)
fits-query_to k n m h i = fits-query k _ _ _ _ (fits-nested k n m h i Whole)
