-- Places cross threads as their values and their allocator do.
use Rattle.scatter_buf.proofs.Steps.{List, [], ◌∷◌, ℕ, ◌+◌, full_share, Keyless, RattleType, Ptr, block_ptr, null_ptr, IsSend, IsSync, Frees, Common, AllSend, part_keyless, owning_send, struct_sync, sendable, shape, fields, to, Option, Some, None, type_size, Ghosts}
use Rattle.scatter_buf.specs.Memory.{places_at, places_lent, owned, lent}
use Rattle.scatter_buf.specs.contracts.places.Places as places

module _ (R : RattleType) where
  keyless : IsSend R → (b o : ℕ) (cs : List (Option R.Denot)) → Keyless (places_at R b o cs)
  keyless s b o [] = tt
  keyless s b o (None ∷ cs) = (tt, keyless s b (o + type_size R) cs)
  keyless s b o (Some x ∷ cs) = (part_keyless R s full_share x b o, keyless s b (o + type_size R) cs)

  common : IsSync R → (b o : ℕ) (cs : List (Option R.Denot)) → Common (places_lent R b o cs)
  common s b o [] κ = tt
  common s b o (None ∷ cs) κ = (tt, common s b (o + type_size R) cs κ)
  common s b o (Some x ∷ cs) κ = (s.shared x b o κ, common s b (o + type_size R) cs κ)

  lent_common : IsSync R → (p : Ptr) (cs : List (Option R.Denot)) → Common (lent R p cs)
  lent_common s (block_ptr b o) cs κ = (tt, common s b o cs κ)
  lent_common s null_ptr cs κ = tt

module _ (R A : RattleType) (g : Ghosts A.Denot) where
  owned_keyless : IsSend R → Frees g g.dealloc_token → (heap : A.Denot) (p : Ptr) (cs : List (Option R.Denot)) → Keyless (owned R (g.dealloc_token heap) p cs)
  owned_keyless s frees heap (block_ptr b o) cs = (tt, (keyless R s b o cs, frees.frees heap _ (block_ptr b o)))
  owned_keyless s frees heap null_ptr cs = tt

  pub Places-send : IsSend R → IsSend A → Frees g g.dealloc_token → IsSend (places.the_row R A g)
  Places-send s a frees =
      let T = places.the_type R A g in let all : AllSend (fields T) = (search sendable, (search sendable, tt)) in
      owning_send T all (λ d. owned_keyless s frees d.heap d.start d.values) (λ k x w. tt)

  pub Places-sync : IsSync R → IsSync (places.the_row R A g)
  Places-sync s = let T = places.the_type R A g in
      record { shared = λ d b o κ. ((struct_sync (shape T) (search sendable, (search sendable, tt))).shared (to T d) b o κ, lent_common R s d.start d.values κ) }
