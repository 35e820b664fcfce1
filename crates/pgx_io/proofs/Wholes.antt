-- What was read to its end is the whole.
use Rattle.std.proofs.Common.{◌≡◌, ◌∙◌, sym, ap, ℕ, ◌≤◌, List, ◌++◌, length, Option, Some, None, Ok, subst}
use Rattle.std.proofs.lemmas.List.{append-nil}
use Rattle.std.specs.Io.KnownBytes.{Consumes, IsAtEnd}
use Rattle.pgx_io.specs.ReadWrite.{ReadsWhole}

pub reads_whole : (old new : Option (List ℕ)) (bytes : List ℕ) → Consumes old new bytes → IsAtEnd new → length bytes ≤ 16777216 → ReadsWhole old (Ok bytes)
reads_whole None new bytes read end short = tt
reads_whole (Some xs) None bytes read end short = absurd read
reads_whole (Some xs) (Some ys) bytes read end short =
    let same : xs ≡ bytes = read ∙ ap (λ zs. bytes ++ zs) end ∙ append-nil bytes in
    (sym same, subst (λ zs. length zs ≤ 16777216) (sym same) short)
