mod Classes
mod EndsLemmas
mod FeedTripLemmas
mod KeptLemmas
mod Places
mod Slots
mod TripEndsLemmas
