-- entries of a queue
use Rattle.std.proofs.Common.{◌≡◌, ◌≢◌, ℕ, zero, suc, ◌+◌, ◌<◌, ◌⊎◌, inl, inr, List, [], ◌∷◌, ◌++◌, length, get_or, set, slice_index, ap, sym, ◌∙◌, subst, arith, length-append}
use Rattle.std.specs.Prelude.{Contains}
use Rattle.std.proofs.lemmas.List.Sums.{sum_by-set}
use Rattle.std.proofs.lemmas.List.Concat.{length-flat_map, flat_map-append}
use Rattle.std.proofs.lemmas.List.Elements.{Contains-append_left, Contains-append_right, Contains-append_cases, Contains-push, Contains-push_cases}
use Rattle.algo_paths.specs.Queue.{entries, entry_of, IsPut, IsTaken, IsPlaced, IsSpread, IsWave}

-- ---- one bucket among others

pub in_bucket : (bs : List (List (ℕ × ℕ))) (p : ℕ) (x : ℕ × ℕ) → p < length bs → Contains (get_or bs p []) x → Contains (entries bs) x
in_bucket [] p x lt h = absurd (omega (arith, lt))
in_bucket (b ∷ bs) zero x lt h = Contains-append_left b (entries bs) x h
in_bucket (b ∷ bs) (suc p) x lt h = Contains-append_right b (entries bs) x (in_bucket bs p x (omega (arith, lt)) h)

pub in_new_bucket : (bs : List (List (ℕ × ℕ))) (p : ℕ) (c : List (ℕ × ℕ)) (x : ℕ × ℕ) → p < length bs → Contains c x → Contains (entries (set bs p c)) x
in_new_bucket [] p c x lt h = absurd (omega (arith, lt))
in_new_bucket (b ∷ bs) zero c x lt h = Contains-append_left c (entries bs) x h
in_new_bucket (b ∷ bs) (suc p) c x lt h = Contains-append_right b (entries (set bs p c)) x (in_new_bucket bs p c x (omega (arith, lt)) h)

pub bucket_or_other : (bs : List (List (ℕ × ℕ))) (p : ℕ) (c : List (ℕ × ℕ)) (x : ℕ × ℕ) → Contains (entries bs) x → Contains (get_or bs p []) x ⊎ Contains (entries (set bs p c)) x
bucket_or_other [] p c x h = absurd (omega (arith, h.1))
bucket_or_other (b ∷ bs) zero c x h =
    elim (Contains-append_cases b (entries bs) x h) [
      | inl here ↦ inl here
      | inr later ↦ inr (Contains-append_right c (entries bs) x later)
    ]
bucket_or_other (b ∷ bs) (suc p) c x h =
    elim (Contains-append_cases b (entries bs) x h) [
      | inl here ↦ inr (Contains-append_left b (entries (set bs p c)) x here)
      | inr later ↦ elim (bucket_or_other bs p c x later) [
        | inl found ↦ inl found
        | inr other ↦ inr (Contains-append_right b (entries (set bs p c)) x other)
      ]
    ]

pub new_bucket_or_other : (bs : List (List (ℕ × ℕ))) (p : ℕ) (c : List (ℕ × ℕ)) (x : ℕ × ℕ) → Contains (entries (set bs p c)) x → Contains c x ⊎ Contains (entries bs) x
new_bucket_or_other [] p c x h = absurd (omega (arith, h.1))
new_bucket_or_other (b ∷ bs) zero c x h =
    elim (Contains-append_cases c (entries bs) x h) [
      | inl here ↦ inl here
      | inr later ↦ inr (Contains-append_right b (entries bs) x later)
    ]
new_bucket_or_other (b ∷ bs) (suc p) c x h =
    elim (Contains-append_cases b (entries (set bs p c)) x h) [
      | inl here ↦ inr (Contains-append_left b (entries bs) x here)
      | inr later ↦ elim (new_bucket_or_other bs p c x later) [
        | inl found ↦ inl found
        | inr other ↦ inr (Contains-append_right b (entries bs) x other)
      ]
    ]

pub length_set : (bs : List (List (ℕ × ℕ))) (p : ℕ) (c : List (ℕ × ℕ)) → p < length bs → length (entries (set bs p c)) + length (get_or bs p []) ≡ length (entries bs) + length c
length_set bs p c lt =
    omega (arith, length-flat_map (λ (b : List (ℕ × ℕ)). b) (set bs p c), length-flat_map (λ (b : List (ℕ × ℕ)). b) bs, sum_by-set (λ (b : List (ℕ × ℕ)). length b) bs p c [] lt)

pub is_put : (bs : List (List (ℕ × ℕ))) (p : ℕ) (x : ℕ × ℕ) → p < length bs → IsPut x (entries bs) (entries (set bs p (get_or bs p [] ++ x ∷ [])))
is_put bs p x lt =
    let b : List (ℕ × ℕ) = get_or bs p [] in
    record {
      put = in_new_bucket bs p (b ++ x ∷ []) x lt (Contains-push b x);
      stays = λ y h.
          elim (bucket_or_other bs p (b ++ x ∷ []) y h) [
            | inl here ↦ in_new_bucket bs p (b ++ x ∷ []) y lt (Contains-append_left b (x ∷ []) y here)
            | inr other ↦ other
          ];
      queued = λ y h.
          elim (new_bucket_or_other bs p (b ++ x ∷ []) y h) [
            | inl here ↦ elim (Contains-push_cases b x y here) [
              | inl old ↦ inl (in_bucket bs p y lt old)
              | inr e ↦ inr (sym e)
            ]
            | inr other ↦ inl other
          ];
      long = omega (arith, length_set bs p (b ++ x ∷ []) lt, length-append b (x ∷ []));
    }

pub is_taken : (bs : List (List (ℕ × ℕ))) (p : ℕ) → p < length bs → 0 < length (get_or bs p []) → IsTaken (get_or bs p []) (entries bs) (entries (set bs p []))
is_taken bs p lt filled = record {
  filled = filled;
  kept = λ y h. bucket_or_other bs p [] y h;
  from = λ y h.
      elim h [
        | inl here ↦ in_bucket bs p y lt here
        | inr other ↦ elim (new_bucket_or_other bs p [] y other) [
          | inl none ↦ absurd (omega (arith, none.1))
          | inr old ↦ old
        ]
      ];
  long = omega (arith, length_set bs p [] lt);
}

-- one more empty bucket
pub none_more : (bs : List (List (ℕ × ℕ))) (b : List (ℕ × ℕ)) → entries bs ≡ [] → b ≡ [] → entries (bs ++ b ∷ []) ≡ []
none_more bs b none empty =
    flat_map-append (λ (c : List (ℕ × ℕ)). c) bs (b ∷ [])
    ∙ ap (λ (es : List (ℕ × ℕ)). es ++ (b ++ [])) none
    ∙ ap (λ (c : List (ℕ × ℕ)). c ++ []) empty

-- ---- an entry that is placed

module _ (best : List ℕ) (nearest : ℕ) (x : ℕ × ℕ) (before : List (ℕ × ℕ)) (wave : List ℕ) where
  pub placed_stale : x.0 ≢ slice_index best x.1 → IsPlaced best nearest x before before wave wave
  placed_stale stale = record {
    kept = λ e. absurd (stale (ap (λ (y : ℕ × ℕ). y.0) e));
    stays = λ y h. h;
    queued = λ y h. inl h;
    listed = λ v h. h;
    taken = λ v h. inl h;
    more = omega arith;
    fewer = λ e. omega arith;
  }

  pub placed_again : (after : List (ℕ × ℕ)) → x.0 ≢ nearest → IsPut x before after → IsPlaced best nearest x before after wave wave
  placed_again after far put = record {
    kept = λ e. inl put.put;
    stays = put.stays;
    queued = put.queued;
    listed = λ v h. h;
    taken = λ v h. inl h;
    more = omega (arith, put.long);
    fewer = λ e. absurd (far e);
  }

  pub placed_listed : IsPlaced best nearest x before before wave (wave ++ x.1 ∷ [])
  placed_listed = record {
    kept = λ e. inr (Contains-push wave x.1);
    stays = λ y h. h;
    queued = λ y h. inl h;
    listed = λ v h. Contains-append_left wave (x.1 ∷ []) v h;
    taken = λ v h.
        elim (Contains-push_cases wave x.1 v h) [
          | inl old ↦ inl old
          | inr e ↦ inr (sym e)
        ];
    more = omega arith;
    fewer = λ e. omega arith;
  }

-- ---- entries that are spread

pub spread_none : (best : List ℕ) (nearest : ℕ) (before : List (ℕ × ℕ)) → IsSpread best nearest [] before before []
spread_none best nearest before = record {
  kept = λ x h e. absurd (omega (arith, h.1));
  stays = λ x h. h;
  queued = λ x h. inl h;
  taken = λ v h. absurd (omega (arith, h.1));
  more = omega arith;
  fewer = λ x h e. absurd (omega (arith, h.1));
}

module _ (best : List ℕ) (nearest : ℕ) (seen before mid after : List (ℕ × ℕ)) (wave longer : List ℕ) (x : ℕ × ℕ)
    (so : IsSpread best nearest seen before mid wave) (one : IsPlaced best nearest x mid after wave longer) (inside : x.1 < length best) where
  kept_on : (y : ℕ × ℕ) → Contains mid y ⊎ Contains wave y.1 → Contains after y ⊎ Contains longer y.1
  kept_on y (inl waits) = inl (one.stays y waits)
  kept_on y (inr listed) = inr (one.listed y.1 listed)

  kept_all : (y : ℕ × ℕ) → y ≡ entry_of best y.1 → Contains seen y ⊎ (x ≡ y) → Contains after y ⊎ Contains longer y.1
  kept_all y e (inl early) = kept_on y (so.kept y early e)
  kept_all y e (inr same) =
      subst (λ (z : ℕ × ℕ). Contains after z ⊎ Contains longer z.1) same (one.kept (subst (λ (z : ℕ × ℕ). z ≡ entry_of best z.1) (sym same) e))

  queued_all : (y : ℕ × ℕ) → Contains mid y ⊎ (y ≡ x) → Contains before y ⊎ Contains (seen ++ x ∷ []) y
  queued_all y (inr same) = inr (subst (Contains (seen ++ x ∷ [])) (sym same) (Contains-push seen x))
  queued_all y (inl early) =
      elim (so.queued y early) [
        | inl old ↦ inl old
        | inr met ↦ inr (Contains-append_left seen (x ∷ []) y met)
      ]

  longer_one : length (seen ++ x ∷ []) ≡ length seen + 1
  longer_one = omega (arith, length-append seen (x ∷ []))

  fewer_all : (y : ℕ × ℕ) → y.0 ≡ nearest → Contains seen y ⊎ (x ≡ y) → length after < length before + length (seen ++ x ∷ [])
  fewer_all y near (inl early) = omega (arith, so.fewer y early near, one.more, longer_one)
  fewer_all y near (inr same) = omega (arith, one.fewer (ap (λ (z : ℕ × ℕ). z.0) same ∙ near), so.more, longer_one)

  pub spread_more : IsSpread best nearest (seen ++ x ∷ []) before after longer
  spread_more = record {
    kept = λ y h e. kept_all y e (Contains-push_cases seen x y h);
    stays = λ y h. one.stays y (so.stays y h);
    queued = λ y h. queued_all y (one.queued y h);
    taken = λ v h.
        elim (one.taken v h) [
          | inl old ↦ so.taken v old
          | inr e ↦ subst (λ u. u < length best) (sym e) inside
        ];
    more = omega (arith, one.more, so.more, longer_one);
    fewer = λ y h near. fewer_all y near (Contains-push_cases seen x y h);
  }

-- ---- a wave

module _ (best : List ℕ) (nearest : ℕ) (bucket before mid after : List (ℕ × ℕ)) (wave : List ℕ)
    (taken : IsTaken bucket before mid) (spread : IsSpread best nearest bucket mid after wave)
    (some : (x : ℕ × ℕ) × Contains bucket x × (x.0 ≡ nearest)) where
  kept_wave : (x : ℕ × ℕ) → x ≡ entry_of best x.1 → Contains bucket x ⊎ Contains mid x → Contains after x ⊎ Contains wave x.1
  kept_wave x e (inl here) = spread.kept x here e
  kept_wave x e (inr other) = inl (spread.stays x other)

  left_wave : (x : ℕ × ℕ) → Contains mid x ⊎ Contains bucket x → Contains before x
  left_wave x (inl other) = taken.from x (inr other)
  left_wave x (inr here) = taken.from x (inl here)

  pub is_wave : IsWave best before after wave
  is_wave = record {
    kept = λ x h e. kept_wave x e (taken.kept x h);
    taken = spread.taken;
    left = λ x h. left_wave x (spread.queued x h);
    fewer = omega (arith, taken.long, spread.fewer some.0 some.1 some.2);
  }
