use Rattle.std.proofs.Common.{◌≡◌, ◌≤◌, ◌++◌, take, length, vec_len, vec_capacity}
use Rattle.desk_run.specs.Order.{reads_of}
use Rattle.desk_run.specs.Reading.{AreRead}
use Rattle.desk_run.proofs.reading.read_papers.Given as goal

abbrev pub invariant-loop-paper : goal.invariant-loop-paper
invariant-loop-paper g l = record {
  read : AreRead (g.S.Shelf.state l.fn.shelf).files (take l.paper-index l.papers) l.pages.items;
  shelf : g.S.Shelf.state l.shelf ≡ g.S.Shelf.state l.fn.shelf;
  noted : g.S.Shelf.history l.shelf ≡ g.S.Shelf.history l.fn.shelf ++ reads_of l.pages.items;
  count : vec_len l.pages ≡ l.paper-index;
  room : length l.papers ≤ vec_capacity l.pages;
}
