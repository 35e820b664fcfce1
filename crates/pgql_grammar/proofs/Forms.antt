-- The forms that several rules have: a keyword that may stand there, what a keyword begins, a list with signs between its items.
use Rattle.std.proofs.Common.{◌≡◌, ℕ, Bool, true, false, ◌∷◌, Some, None}
use Rattle.pgql_grammar.specs.declared.piece.Sym.{Sym}
use Rattle.pgql_grammar.specs.declared.piece.Sym.TheVariants.{End}
use Rattle.pgql_grammar.specs.Sorts.{is}
use Rattle.pgql_grammar.specs.Language as lang
use Rattle.pgql_grammar.specs.Language.{Lang}
use Rattle.pgql_grammar.specs.Reading as read
use Rattle.pgql_grammar.specs.Reading.{Parser}
use Rattle.pgql_grammar.proofs.Sets.{below, apart, below_self, below_any, below_both}
use Rattle.pgql_grammar.proofs.Fitting.{Fits, any, both, done, next, fits-bind, fits-choose, fits-all}

pub fits-maybe : {k : ℕ} (m : Sym) (stop : Sym → Bool) → is m m ≡ true → apart (is m) (is End) ≡ true → apart stop (is m) ≡ true
    → Fits k (read.maybe m) (read.maybe m) (lang.maybe m) (lang.maybe m) (both (is m) stop) stop
unfolding read.maybe
fits-maybe m stop own inside ends = fits-choose (is m) stop
    (fits-bind (next (is m) m own inside) (λ _. done any true) (below_any any)) (done stop false) (below_self (is m)) ends (below_any stop) (below_self stop)

pub fits-optional : {A : Type 0} {k : ℕ} {p q : Parser A} {L M : Lang A} {first last : Sym → Bool} (m : Sym) (stop : Sym → Bool) → is m m ≡ true → apart (is m) (is End) ≡ true
    → Fits k p q L M first last → apart stop (is m) ≡ true → below stop last ≡ true
    → Fits k (read.optional m p) (read.optional m q) (lang.optional m L) (lang.optional m M) (both (is m) stop) stop
unfolding read.optional
fits-optional {first = first} m stop own inside part ends under = fits-choose (is m) stop
    (fits-bind (next (is m) m own inside) (λ _. fits-bind part (λ a. done stop (Some a)) under) (below_any first)) (done stop None) (below_self (is m)) ends (below_self stop) (below_self stop)

pub fits-separated : {A : Type 0} {k : ℕ} {p q : Parser A} {L M : Lang A} {first between : Sym → Bool} (m : Sym) (stop : Sym → Bool) → is m m ≡ true → apart (is m) (is End) ≡ true
    → Fits k p q L M first between → apart stop (is m) ≡ true → below stop between ≡ true → below (is m) between ≡ true
    → Fits k (read.separated m p) (read.separated m q) (lang.separated m L) (lang.separated m M) first stop
unfolding read.separated
fits-separated {between = between} m stop own inside part ends after again = fits-bind part
    (λ one. fits-bind (fits-all (is m) stop m own inside (λ _. part) ends after again) (λ more. done stop (one ∷ more)) (below_self stop)) (below_both (is m) stop between again after)
