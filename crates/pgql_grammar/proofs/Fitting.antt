-- A reader that fits a language: it reads words of the language alone and all of them, and one piece of lookahead decides.
use Rattle.std.proofs.Common.{◌≡◌, inl, inr, ℕ, suc, ◌≤◌, Bool, true, false, ◌||◌, if◌then◌else◌, List, [], ◌∷◌, ◌++◌, pos, Ok, refl, ap, ◌∙◌, append_assoc}
use Rattle.pgql_grammar.specs.declared.piece.Piece.{Piece}
use Rattle.pgql_grammar.specs.declared.piece.Sym.{Sym}
use Rattle.pgql_grammar.specs.declared.piece.Sym.TheVariants.{End}
use Rattle.pgql_grammar.specs.Sorts.{is}
use Rattle.pgql_grammar.specs.Language as lang
use Rattle.pgql_grammar.specs.Language.{Lang, one, many, AllOf, pick}
use Rattle.pgql_grammar.specs.Reading as read
use Rattle.pgql_grammar.specs.Reading.{Parser, and_then, head, by_next, choose, expect, all}
use Rattle.pgql_grammar.proofs.Sets.{below, apart, below_at, apart_at}
use Rattle.pgql_grammar.proofs.Good.{Good, Word, good-pure, good-expect, good-bind, good-in, good-next, good-if, good-all}
use Rattle.pgql_grammar.proofs.Agree.{Agrees, agree-less, agree-pure, agree-expect, agree-bind, agree-after, agree-next, agree-if, agree-all}
use Rattle.pgql_grammar.proofs.Takes.{Takes, takes-pure, takes-expect, takes-bind, takes-all}

-- ---- larger languages

pub record In {A : Type 0} (L M : Lang A) : Type 0 where
  pub at : (ts : List Piece) (a : A) → L ts a → M ts a

pub same : {A : Type 0} (L : Lang A) → In L L
same L = record { at = λ ts a h. h }

pub in-bind : {A B : Type 0} {L M : Lang A} {F G : A → Lang B} → In L M → ((a : A) → In (F a) (G a)) → In (lang.◌>>=◌ L F) (lang.◌>>=◌ M G)
in-bind i each = record { at = λ ts b h. (h.0, h.1, h.2, h.3, i.at h.0 h.2 h.4, (each h.2).at h.1 b h.5) }

pub in-or : {A : Type 0} {L M F G : Lang A} → In L M → In F G → In (lang.◌or◌ L F) (lang.◌or◌ M G)
in-or {L = L} {M = M} {F = F} {G = G} i j = record { at = λ ts a h. elim h [ inl w ↦ inl (i.at ts a w) | inr w ↦ inr (j.at ts a w) ] }

all_in : {A : Type 0} (L M : Lang A) → In L M → (found : List A) (ts : List Piece) → AllOf L found ts → AllOf M found ts
all_in L M i [] ts h = h
all_in L M i (a ∷ more) ts h = (h.0, h.1, h.2, i.at h.0 a h.3, all_in L M i more h.1 h.4)

pub in-many : {A : Type 0} {L M : Lang A} → In L M → In (many L) (many M)
in-many {L = L} {M = M} i = record { at = λ ts found h. all_in L M i found ts h }

in-if : {A : Type 0} (b : Bool) {L M F G : Lang A} → In L M → In F G → In (pick b L F) (pick b M G)
in-if true i j = i
in-if false i j = j

-- both ways
pub record Equal {A : Type 0} (L M : Lang A) : Type 0 where
  pub to : In L M
  pub back : In M L

-- ---- what a word shows first, where a piece that `stop` passes stands behind it

pub record Shows {A : Type 0} (L : Lang A) (first stop : Sym → Bool) : Type 0 where
  pub shows : (u rest : List Piece) (a : A) → L u a → stop (head rest) ≡ true → first (head (u ++ rest)) ≡ true

shows-pure : {A : Type 0} (a : A) (stop : Sym → Bool) → Shows (lang.pure a) stop stop
shows-pure a stop = record { shows = λ u rest b h e. ap (λ (l : List Piece). stop (head (l ++ rest))) h.0 ∙ e }

shows-one : (test stop : Sym → Bool) → Shows (one test) test stop
shows-one test stop = record { shows = λ u rest x h e. ap (λ (l : List Piece). test (head (l ++ rest))) h.0 ∙ h.1 }

-- ---- the whole fact

abbrev pub any : Sym → Bool
any k = true

abbrev pub both : (Sym → Bool) → (Sym → Bool) → Sym → Bool
both f g k = f k || g k

-- p reads L, and up to k pieces in q does what p does; q reads M, which is larger
pub record Fits {A : Type 0} (k : ℕ) (p q : Parser A) (L M : Lang A) (first stop : Sym → Bool) : Type 0 where
  pub good : Good p L
  pub same : Agrees k p q
  pub takes : Takes p L stop
  pub shows : Shows L first stop
  pub wide : In L M

pub fits-less : {A : Type 0} {k : ℕ} {p q : Parser A} {L M : Lang A} {first stop : Sym → Bool} (j : ℕ) → j ≤ k → Fits k p q L M first stop → Fits j p q L M first stop
fits-less {k = k} {p = p} {q = q} j h f = record { good = f.good; same = agree-less j k p q h f.same; takes = f.takes; shows = f.shows; wide = f.wide }

-- with more firsts and fewer stops
pub fits-as : {A : Type 0} {k : ℕ} {p q : Parser A} {L M : Lang A} {first stop : Sym → Bool} (more fewer : Sym → Bool) → Fits k p q L M first stop
    → below first more ≡ true → below fewer stop ≡ true → Fits k p q L M more fewer
fits-as {first = first} {stop = stop} more fewer f above under = record {
  good = f.good;
  same = f.same;
  takes = record { takes = λ u rest a h e. f.takes.takes u rest a h (below_at fewer stop under (head rest) e) };
  shows = record { shows = λ u rest a h e. below_at first more above (head (u ++ rest)) (f.shows.shows u rest a h (below_at fewer stop under (head rest) e)) };
  wide = f.wide;
}

-- at equal languages
pub fits-equal : {A : Type 0} {k : ℕ} {p q : Parser A} {L M N O : Lang A} {first stop : Sym → Bool} → Equal L N → Equal M O → Fits k p q L M first stop → Fits k p q N O first stop
fits-equal {p = p} {L = L} {N = N} e h f = record {
  good = good-in p L N (λ ts a w. e.to.at ts a w) f.good;
  same = f.same;
  takes = record { takes = λ u rest a w i. f.takes.takes u rest a (e.back.at u a w) i };
  shows = record { shows = λ u rest a w i. f.shows.shows u rest a (e.back.at u a w) i };
  wide = record { at = λ ts a w. h.to.at ts a (f.wide.at ts a (e.back.at ts a w)) };
}

pub done : {A : Type 0} {k : ℕ} (stop : Sym → Bool) (a : A) → Fits k (read.pure a) (read.pure a) (lang.pure a) (lang.pure a) stop stop
done {k = k} stop a = record { good = good-pure a; same = agree-pure k a; takes = takes-pure a stop; shows = shows-pure a stop; wide = same _ }

-- a piece of a sort
abbrev pub piece : Sym → Piece
piece k = record { sym = k; place = 0; text = []; number = pos 0; day = pos 0 }

-- a piece, where k is one of its sorts and the end is none
pub next : {k : ℕ} (test : Sym → Bool) (sign : Sym) → test sign ≡ true → apart test (is End) ≡ true → Fits k (expect test) (expect test) (one test) (one test) test any
next {k = k} test sign h inside = record {
  good = good-expect test (apart_at test (is End) inside) (piece sign) h;
  same = agree-expect test k;
  takes = takes-expect test any;
  shows = shows-one test any;
  wide = same _;
}

pub fits-bind : {A B : Type 0} {k : ℕ} {p q : Parser A} {L M : Lang A} {first between : Sym → Bool} {f g : A → Parser B} {F G : A → Lang B} {second stop : Sym → Bool}
    → Fits k p q L M first between → ((a : A) → Fits k (f a) (g a) (F a) (G a) second stop) → below second between ≡ true
    → Fits k (read.◌>>=◌ p f) (read.◌>>=◌ q g) (lang.◌>>=◌ L F) (lang.◌>>=◌ M G) first stop
fits-bind {A} {B} {k = k} {p = p} {q = q} {L = L} {M = M} {first = first} {between = between} {f = f} {g = g} {F = F} {G = G} {second = second} {stop = stop} one_fits more_fit under = record {
  good = good-bind p L f F one_fits.good (λ a. (more_fit a).good);
  same = agree-bind k p q L f g F one_fits.good (λ a. (more_fit a).good) one_fits.same (λ a. (more_fit a).same);
  takes = takes-bind p L f F between stop one_fits.takes (λ a. (more_fit a).takes) (λ a b v rest h e. goes_on a b v rest h e);
  shows = record {
    shows = λ w rest b h e.
        ap (λ (l : List Piece). first (head l)) (ap (λ (l : List Piece). l ++ rest) h.3 ∙ append_assoc h.0 h.1 rest)
        ∙ one_fits.shows.shows h.0 (h.1 ++ rest) h.2 h.4 (goes_on h.2 b h.1 rest h.5 e);
  };
  wide = in-bind one_fits.wide (λ a. (more_fit a).wide);
}
  where
    goes_on : (a : A) (b : B) (v rest : List Piece) → F a v b → stop (head rest) ≡ true → between (head (v ++ rest)) ≡ true
    goes_on a b v rest h e = below_at second between under (head (v ++ rest)) ((more_fit a).shows.shows v rest b h e)

-- after a piece, one fewer
pub fits-after : {B : Type 0} {k : ℕ} {test : Sym → Bool} {f g : Piece → Parser B} {F G : Piece → Lang B} {second stop : Sym → Bool}
    → Fits k (expect test) (expect test) (one test) (one test) test any → ((a : Piece) → Fits k (f a) (g a) (F a) (G a) second stop)
    → Fits (suc k) (read.◌>>=◌ (expect test) f) (read.◌>>=◌ (expect test) g) (lang.◌>>=◌ (one test) F) (lang.◌>>=◌ (one test) G) test stop
fits-after {k = k} {test = test} {f = f} {g = g} {F = F} {G = G} {stop = stop} first more_fit = record {
  good = good-bind (expect test) (one test) f F first.good (λ a. (more_fit a).good);
  same = agree-after k test f g F first.good (λ a. (more_fit a).good) (λ a. (more_fit a).same);
  takes = takes-bind (expect test) (one test) f F any stop first.takes (λ a. (more_fit a).takes) (λ a b v rest h e. refl);
  shows = record {
    shows = λ w rest b h e.
        ap (λ (l : List Piece). test (head l)) (ap (λ (l : List Piece). l ++ rest) h.3 ∙ append_assoc h.0 h.1 rest)
        ∙ first.shows.shows h.0 (h.1 ++ rest) h.2 h.4 refl;
  };
  wide = in-bind (same _) (λ a. (more_fit a).wide);
}

-- what the next piece decides
pub fits-choose : {A : Type 0} {k : ℕ} {p q p2 q2 : Parser A} {L M L2 M2 : Lang A} {f s f2 s2 : Sym → Bool} (test stop : Sym → Bool)
    → Fits k p q L M f s → Fits k p2 q2 L2 M2 f2 s2 → below f test ≡ true → apart f2 test ≡ true → below stop s ≡ true → below stop s2 ≡ true
    → Fits k (choose test p p2) (choose test q q2) (lang.◌or◌ L L2) (lang.◌or◌ M M2) (both f f2) stop
fits-choose {A} {k = k} {p = p} {q = q} {p2 = p2} {q2 = q2} {L = L} {M = M} {L2 = L2} {M2 = M2} {f = f} {s = s} {f2 = f2} {s2 = s2} test stop one_fits other ahead behind under under2 = record {
  good = good-next _ (lang.◌or◌ L L2) a_word (λ t. good-if (test t) p p2 (lang.◌or◌ L L2)
      (good-in p L _ (λ ts a w. inl w) one_fits.good) (good-in p2 L2 _ (λ ts a w. inr w) other.good));
  same = agree-next k _ _ (λ t. agree-if k (test t) p p2 q q2 one_fits.same other.same);
  takes = record { takes = takes_either };
  shows = record { shows = shows_either };
  wide = in-or one_fits.wide other.wide;
}
  where
    a_word : Word (lang.◌or◌ L L2)
    a_word = let w : Word L = one_fits.good.word in (w.0, w.1, inl w.2)

    takes_either : (u rest : List Piece) (a : A) → lang.◌or◌ L L2 u a → stop (head rest) ≡ true → choose test p p2 (u ++ rest) ≡ Ok (a, rest)
    takes_either u rest a (inl h) e =
        let stops = below_at stop s under (head rest) e in
        ap (λ (b : Bool). (if b then p else p2) (u ++ rest)) (below_at f test ahead (head (u ++ rest)) (one_fits.shows.shows u rest a h stops)) ∙ one_fits.takes.takes u rest a h stops
    takes_either u rest a (inr h) e =
        let stops = below_at stop s2 under2 (head rest) e in
        ap (λ (b : Bool). (if b then p else p2) (u ++ rest)) (apart_at f2 test behind (head (u ++ rest)) (other.shows.shows u rest a h stops)) ∙ other.takes.takes u rest a h stops

    left_of : (b c : Bool) → b ≡ true → (b || c) ≡ true
    left_of true c e = refl
    left_of false c e = absurd cc

    right_of : (b c : Bool) → c ≡ true → (b || c) ≡ true
    right_of true c e = refl
    right_of false c e = e

    shows_either : (u rest : List Piece) (a : A) → lang.◌or◌ L L2 u a → stop (head rest) ≡ true → both f f2 (head (u ++ rest)) ≡ true
    shows_either u rest a (inl h) e = left_of (f (head (u ++ rest))) (f2 (head (u ++ rest))) (one_fits.shows.shows u rest a h (below_at stop s under (head rest) e))
    shows_either u rest a (inr h) e = right_of (f (head (u ++ rest))) (f2 (head (u ++ rest))) (other.shows.shows u rest a h (below_at stop s2 under2 (head rest) e))

-- what was known before decides
pub fits-if : {A : Type 0} {k : ℕ} {p q p2 q2 : Parser A} {L M L2 M2 : Lang A} {first stop : Sym → Bool} (b : Bool) → Fits k p q L M first stop → Fits k p2 q2 L2 M2 first stop
    → Fits k (if b then p else p2) (if b then q else q2) (pick b L L2) (pick b M M2) first stop
fits-if true f g = f
fits-if false f g = g

-- one after another, each begun by a sign
pub fits-all : {A : Type 0} {k : ℕ} {item jtem : Piece → Parser A} {L M : Piece → Lang A} {second between : Sym → Bool} (starts stop : Sym → Bool) (sign : Sym) → starts sign ≡ true → apart starts (is End) ≡ true
    → ((x : Piece) → Fits k (item x) (jtem x) (L x) (M x) second between) → apart stop starts ≡ true → below stop between ≡ true → below starts between ≡ true
    → Fits k (all starts item) (all starts jtem) (many (lang.◌>>=◌ (one starts) L)) (many (lang.◌>>=◌ (one starts) M)) (both starts stop) stop
fits-all {A} {k = k} {item = item} {jtem = jtem} {L = L} {M = M} {between = between} starts stop sign is_sign inside each ends after again = record {
  good = good-all starts within (piece sign) is_sign item L (λ x. (each x).good);
  same = agree-all starts within (piece sign) is_sign item jtem L (λ x. (each x).good) k (λ x. (each x).same);
  takes = takes-all starts item L stop between (apart_at stop starts ends) (below_at stop between after) (below_at starts between again) (λ x. (each x).takes);
  shows = record { shows = λ u rest found h e. first_of found u rest h e };
  wide = in-many (in-bind (same _) (λ x. (each x).wide));
}
  where
    within : (t : Sym) → starts t ≡ true → is End t ≡ false
    within = apart_at starts (is End) inside

    left_of : (b c : Bool) → b ≡ true → (b || c) ≡ true
    left_of true c e = refl
    left_of false c e = absurd cc

    right_of : (b c : Bool) → c ≡ true → (b || c) ≡ true
    right_of true c e = refl
    right_of false c e = e

    first_of : (found : List A) (u rest : List Piece) → AllOf (lang.◌>>=◌ (one starts) L) found u → stop (head rest) ≡ true → both starts stop (head (u ++ rest)) ≡ true
    first_of [] u rest h e = ap (λ (l : List Piece). both starts stop (head (l ++ rest))) h ∙ right_of (starts (head rest)) (stop (head rest)) e
    first_of (a ∷ more) u rest h e =
        let i = h.3 in
        let begins : u ≡ i.2 ∷ (i.1 ++ h.1) = h.2 ∙ ap (λ (l : List Piece). l ++ h.1) (i.3 ∙ ap (λ (l : List Piece). l ++ i.1) i.4.0) in
        ap (λ (l : List Piece). both starts stop (head (l ++ rest))) begins ∙ left_of (starts i.2.sym) (stop i.2.sym) i.4.1
