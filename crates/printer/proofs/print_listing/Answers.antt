use Rattle.std.proofs.Common.{◌≡◌, OnOk, length, take, sym, ap, ◌∙◌, subst, arith, length-take-le}
use Rattle.std.specs.Io.KnownBytes.{Appends}
use Rattle.listing.specs.Listing.{listing_of}
use Rattle.listing.specs.Given.{with_room, written_within}
use Rattle.listing.proofs.Size.{listing_size, always_written}
use Rattle.printer.proofs.print_listing.Goals as goal

-- the buffer holds any listing
pub unreachable-requires : goal.unreachable-requires
unreachable-requires g c = c.in_default.not-Ok _ (always_written _ _ (omega arith) c.list.ensures)

pub slice_bounds-buffer-end : goal.slice_bounds-buffer-end
slice_bounds-buffer-end g c = written_within _ _ c.list.ensures c.in-Ok.is

pub slice_bounds-write_all-end : goal.slice_bounds-write_all-end
slice_bounds-write_all-end g c = sym (length-take-le _ _ (written_within _ _ c.list.ensures c.in-Ok.is))

-- what is written is the front of the buffer, and the listing stands there
pub returns : goal.returns
returns g c =
    let listing = listing_of c.args.job.now in
    let w = with_room listing _ c.list.ensures (omega (arith, listing_size c.args.job.now)) in
    let same : c.in-Ok.size ≡ length listing = cc (w.0, c.in-Ok.is) in
    let out = c.write_all.new.self in
    subst (λ bytes. OnOk c.write_all.result (Appends (g.W.Write.contents c.args.output.now) (g.W.Write.contents out) bytes))
    (ap (λ n. take n c.list.new.out) same ∙ w.1) c.write_all.ensures.bytes
