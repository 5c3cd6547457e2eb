-- The number asks what is said of one tile, and the index for its length and one entry. Assumes nothing.
use Rattle.tiles.specs.Index.{index_wrong, said_of}
use Rattle.tiles.specs.LookUp.{found_of, stored_by, OneTile, OneEntry}

pub one-tile : OneTile
unfolding found_of
one-tile k says other r c e = rw e

pub one_entry : OneEntry
unfolding stored_by found_of index_wrong said_of
one_entry k index other count store r c e f = rw (e, f)
