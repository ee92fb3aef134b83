mod TreeLemmas
mod ZipLemmas
