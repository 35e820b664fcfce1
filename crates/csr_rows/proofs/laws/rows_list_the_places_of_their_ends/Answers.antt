use Rattle.csr_rows.proofs.Meaning.{place_of_end, end_of_place, places_rise, row_lists, last_row_filled}
use Rattle.csr_rows.proofs.laws.rows_list_the_places_of_their_ends.Goals as goal

pub returns : goal.returns
returns c = record {
  row = row_lists c.args.ends.now;
  exact = λ i e. (place_of_end c.args.ends.now i e, end_of_place c.args.ends.now i e);
  rising = places_rise c.args.ends.now;
  trimmed = last_row_filled c.args.ends.now;
}
