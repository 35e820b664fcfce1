-- The names that the proofs by hand cite, passed on from one place.
pub use mathlib.Core.Path.{◌≡◌, refl, sym, ap, subst, ◌∙◌}
pub use mathlib.Core.Bool.{true, false}
pub use Prim.Native.Nat.{ℕ, suc, ◌*◌, ◌<◌, ◌≤◌, ◌^◌, ◌+◌, zero}
pub use native.Mathlib.Omega.{arith}
pub use mathlib.Core.List.{List, [], ◌∷◌, map, ◌++◌}
pub use lib.Dec.{lit<, nltb→le, T}
pub use lib.ListN.{length, replicate, length-replicate, set, length-set, length-map}
pub use seplogic.Ra.Ura.{Ura}
pub use base.Logic.{ent, via, guard_i, wand, id⊢, apply∗, sep, emp, mono_r}
pub use base.Fml.{froom, flft, Incl-trans, fhide, Lft, fat, Fml, Incl, ftrue, ffalse, fsep}
pub use mir.Syntax.{Fn, Body, w64, ty_array, named, ty_ptr, ty_unit, Ty, Args, a_type, dcons, dnil}
pub use mir.MapTy.{inst_fn}
pub use mir.Val.{Val, vptr, vint, vstruct, vnil, of_list, Fits, vunit, has_ty, WT, vcons}
pub use prog.Memory.{align, capped, size}
pub use prog.Capped.{capped_is, capped_small, capped_fits}
pub use prog.Wp.{Wp, Env, WpFn, after_seq, at_return}
pub use prog.Model.{Model}
pub use types.Logic.{Logic, sem}
pub use contract.Running.{Running, tables}
pub use types.Kit.{Post as After, any_q, ‵, raw, ◌⊛◌, ⋆, later, at_ret, ◌$◌, ◌∵◌, !, qed, by, move, keep, drop, use1, use2, split, join, rewrite, fsplit, fjoin, flt_i, suffices, await, done, fsplit3, fjoin3, feq_i, flt_l, feq_l, given, prop, group, learn, regoal, some, pick, frame, assume, Goal, Seq, Item}
pub use types.Part.{whole, agg, sub, look_in}
pub use types.Match.{live, vrt, in_variant}
pub use types.Run.{stop, fld, lit, size_word, size_lit, align_word, no_more, and_then, of_opd, bin, first, branches, skips, switches_on, exec, returns, returns_within, enter, init, load, unit_lit, assigns_last, blocks, look}
pub use types.ByLocal.{alloc_all, pass_all, free_all, look_at, get, get_in, get_tag, sets, sets_last, lands_as, env, through, lands_last}
pub use denote.Exit.{yes, no}
pub use denote.Laws.{Is, shows}
pub use denote.RattleType.{RattleType, owns, RowLaws}
pub use denote.Builtin.{usize, RefOf}
pub use denote.Param.{layout as layout_of, param, bounded}
pub use denote.Plain.{uint_vals, uint_Tells}
pub use denote.RawPtr.{Ptr, block_ptr, in_a_block, RawPtr, coded_ptr, ptr_own, rawptr_pure, ptr_val, null_ptr}
pub use denote.Ref.{shr_vals, shr_Tells}
pub use denote.Shadow.{pure_i}
pub use denote.Signature.{plain, types_at}
pub use denote.Steps.{nothing, owned as owns_by, opens, closes, peeks, looks, shuts, heard}
pub use denote.Struct.Struct.{Struct, Struct-Makes}
pub use denote.Triple.Call.{calls_at, calls_at_last}
pub use denote.Triple.Clauses.{Clauses, Ended}
pub use denote.Triple.Statement.{Contract, Triple}
pub use denote.Triple.Table.{framed}
pub use denote.Triple.Walked.{says, Stays, stay_dropped, walk_of, ends_at, Goes-dropped, stay_ref, Goes-ref}
pub use Rattle.std.specs.Prelude.{None, Ok, Err, IfOk, Option, Some, slice_get}
pub use Rattle.std.proofs.raw_atomic.Walks.{proved, proved_at}
pub use Rattle.std.proofs.RawLayout.{as_written, as_raw}
pub use Rattle.std.proofs.RcSteps.{first_Good}
pub use Rattle.std.proofs.ResultValues.{ok_of, err_of}
pub use Rattle.std.proofs.VecSteps.Shapes.{after, head, arm_body}
pub use Rattle.std.proofs.ptr.Rows.{El, R, elτ, sz, times_below, el_x, Good, el_in, one_below, el_own, el_out}
pub use Rattle.std.proofs.alloc.Calls.{Al, token, Answer-typed, takes_key, Takes, at_takes, Answered, Takes-goes, Takes-gives, answers, gives_key, Gives, at_gives, Gives-goes, Gives-Gives, Goes-blank}
pub use base.Fraction.{full_share}
pub use mir.Raw.{raw as raw_ty}
pub use denote.Memory.{cell_at, hidden_shr, lone}
pub use denote.Index.{place, place_is}
pub use denote.Param.Laws.{param_laws, Laws}
pub use denote.Triple.Entry.{Vals}
pub use Rattle.std.proofs.lemmas.Option.{slice_get_within, same_Some}
pub use Rattle.std.proofs.mem.Param.{one}
pub use denote.Opens.{hide, unhide}
pub use denote.Copied.{plain_Copied}
pub use denote.Slice.{elements_shared, slice_val}
pub use denote.Struct.Laws.{RawPtr-laws, RawPtr-copy, field_copy}
pub use denote.Sharing.{ShrLaws, said}
pub use denote.SharingLaws.{nothing_shr_laws, said_shr_laws, beside_shr_laws}
pub use denote.Shares.{Shares-less}
pub use denote.Struct.Lending.{Lends, Lends-nothing, Lends-said, Lends-false, Lends-first, Lends-both, of_Lends}
pub use Rattle.std.specs.Mem.{type_size}
pub use contract.BorrowLft.{◌⊑◌, meet_⊑_left}
pub use contract.Lifetimes.{Lfts, Shares}
pub use contract.Monad.{fact}
pub use prog.RawLaws.{size-raw, align-raw}
pub use denote.Struct.Owning.{shape, fields, to}
pub use denote.Struct.OwningLaws.{Lowered}
pub use base.Shift.{Keyless}
pub use denote.Param.Send.{IsSend, IsSync, Frees, Common, AllSend, part_keyless, owning_send, struct_sync, sendable}
pub use Rattle.std.specs.declared.alloc.Allocator.{Ghosts}
pub use denote.Param.Shared.{copy_shared}
pub use denote.Struct.Field.{RawPtr-field}
